-- 12 is given exactly when the slot is already filled, 13 exactly when there is nothing to take: of any answer that the functions' promises
-- allow. Assumes nothing.
use mathlib.Core.Path.{◌≡◌, refl, ap}
use mathlib.Core.Bool.{true, false, not}
use mathlib.Core.Logic.Iff
use mathlib.Core.Logic.{◌↔◌}
use Prim.Native.Nat.{ℕ}
use lib.Dec.{lit≤, lit<}
use borrow.Author.Tests.{not-true}
use Rattle.choice.proofs.Verdict.{exactly, only_one}
use Rattle.done.specs.Done.{is_filled, ShownFill, shown_fill, fill_tests, fill_refused, fill_done, filled, ShownTake, shown_take, take_tests}
use Rattle.done.specs.Done.{take_refused, take_done, taken}
use Rattle.done.proofs.DoneSlot.done_with.Reads as done-with
use Rattle.done.proofs.DoneSlot.take_done_reason.Reads as take-done-reason

abbrev number_of_fill : ShownFill → ℕ
number_of_fill s = s.number

abbrev number_of_take : ShownTake → ℕ
number_of_take s = s.number

pub exactly_12 : (κ : _) (a : _) (r : _) (e : _) → done-with.Post κ a r e → number_of_fill (shown_fill r.0 r.1) ≡ 12 ↔ is_filled a.0 ≡ true
unfolding fill_tests filled
exactly_12 κ a r e p =
    let s = a.0 in
    Iff.trans
    (exactly number_of_fill (fill_refused s) (fill_done a.1.0) (λ n. refl) (lit< tt) (fill_tests s) (shown_fill r.0 r.1) p 12 (lit≤ tt))
    only_one

pub exactly_13 : (κ : _) (a : _) (r : _) (e : _) → take-done-reason.Post κ a r e → number_of_take (shown_take r.0 r.1) ≡ 13 ↔ is_filled a.0 ≡ false
unfolding take_tests taken
exactly_13 κ a r e p =
    let s = a.0 in
    Iff.trans
    (exactly number_of_take (take_refused s) (take_done s) (λ n. refl) (lit< tt) (take_tests s) (shown_take r.0 r.1) p 13 (lit≤ tt))
    (Iff.trans only_one (not-true (is_filled s), ap not))
