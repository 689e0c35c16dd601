-- Half of a width's numbers and the other half are all of them: for omega, to which `2 ^ bits w` is an atom. Assumes nothing.
use mathlib.Core.Path.{◌≡◌, refl}
use Prim.Native.Nat.{ℕ, ◌+◌, ◌^◌}
use mir.Syntax.{Width, w8, w16, w32, w64, w128}
use mir.Val.{bits, hbits}

pub two_halves : (w : Width) → 2 ^ hbits w + 2 ^ hbits w ≡ 2 ^ bits w
two_halves w8 = refl
two_halves w16 = refl
two_halves w32 = refl
two_halves w64 = refl
two_halves w128 = refl
