-- An optional number told by a flag and a number: read back, it is the same. Assumes nothing.
use Rattle.std.specs.Prelude.{◌≡◌, ℕ, Option, Some, None, is_some, unwrap_or}
use Rattle.std.specs.Bool.{then_some}
use mathlib.Core.Path.{refl}

pub given_again : (g : Option ℕ) → then_some (is_some g) (unwrap_or g 0) ≡ g
given_again None = refl
given_again (Some n) = refl
