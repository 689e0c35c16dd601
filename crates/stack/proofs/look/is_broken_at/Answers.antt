-- `stack::look::is_broken_at` meets its contract: there is no such frame, or its row is read. Assumes nothing.
use mathlib.Core.Path.{◌≡◌}
use Prim.Native.Nat.{ℕ, ◌+◌, ◌-◌, ◌<◌}
use native.Mathlib.Omega.{arith}
use borrow.Author.Tests.{lt-ltb, le-ltb}
use Rattle.stack.proofs.look.is_broken_at.Goals as goal

same_place : (n k : ℕ) → k < n → n - k - 1 ≡ n - (k + 1)
same_place n k h = omega arith

pub returns-then-count-above : goal.returns-then-count-above
returns-then-count-above c =
    rw (le-ltb _ _ c.if-count-above.true)

pub returns : goal.returns
returns c =
    let there : c.args.above < c.args.count = omega arith in
    rw (lt-ltb _ _ there, c.is_broken.ensures, c.read_row.ensures, same_place _ _ there)
