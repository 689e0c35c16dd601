-- Each public promise allows one outcome. Assumes nothing.
use mathlib.Core.Path.{◌≡◌, refl, sym, ◌∙◌}
use mathlib.Core.Bool.{cond}
use Prim.Native.Nat.{ℕ}
use lib.Dec.{eqb}
use Rattle.std.specs.Prelude.{Result, Ok, Err, ⊤}
use Rattle.choice.specs.Once.{Once, beside}
use Rattle.choice.proofs.OneToOne.{one_to_one}
use Rattle.done.specs.declared.DoneReason.{DoneReason}
use Rattle.done.specs.declared.DoneReason.TheVariants.{Returned, HostError, OutOfFuel, Error}
use Rattle.done.specs.declared.DoneSlot.{DoneSlot}
use Rattle.done.specs.declared.AlreadyFilled.{AlreadyFilled}
use Rattle.done.specs.declared.NothingToTake.{NothingToTake}
use Rattle.done.specs.Done.{reason_number, reason_value, ShownFill, shown_fill, ShownTake, shown_take}
use Rattle.done.proofs.U64FromAlreadyFilled.from.Reads as filled-number
use Rattle.done.proofs.U64FromNothingToTake.from.Reads as none-number
use Rattle.done.proofs.DoneSlot.empty.Reads as empty
use Rattle.done.proofs.DoneSlot.done_with.Reads as done-with
use Rattle.done.proofs.DoneSlot.take_done_reason.Reads as take-done-reason

-- ---- equal numbers are equal answers

abbrev reason_from : (number value : ℕ) → DoneReason
reason_from n v = cond (eqb n 1) (Returned v) (cond (eqb n 2) HostError (cond (eqb n 3) (OutOfFuel v) Error))

reason_back : (r : DoneReason) → reason_from (reason_number r) (reason_value r) ≡ r
reason_back (Returned offset) = refl
reason_back HostError = refl
reason_back (OutOfFuel needed) = refl
reason_back Error = refl

abbrev Filling : Type 0
Filling = Result ⊤ AlreadyFilled × DoneSlot

abbrev fill_from : ShownFill → Filling
fill_from s = (cond (eqb s.number 0) (Ok tt) (Err (record {})), s.slot)

fill_back : (a : Result ⊤ AlreadyFilled) (s : DoneSlot) → fill_from (shown_fill a s) ≡ beside a s
fill_back (Ok _) s = refl
fill_back (Err _) s = refl

pub shown_fill_once : (r s : Filling) → shown_fill r.0 r.1 ≡ shown_fill s.0 s.1 → r ≡ s
shown_fill_once = one_to_one (λ (t : Filling). shown_fill t.0 t.1) fill_from (λ t. fill_back t.0 t.1)

abbrev Taking : Type 0
Taking = Result DoneReason NothingToTake × DoneSlot

abbrev take_from : ShownTake → Taking
take_from s = (cond (eqb s.number 0) (Ok (reason_from s.reason s.value)) (Err (record {})), s.slot)

take_back : (a : Result DoneReason NothingToTake) (s : DoneSlot) → take_from (shown_take a s) ≡ beside a s
take_back (Ok r) s = rw (reason_back r)
take_back (Err _) s = refl

pub shown_take_once : (r s : Taking) → shown_take r.0 r.1 ≡ shown_take s.0 s.1 → r ≡ s
shown_take_once = one_to_one (λ (t : Taking). shown_take t.0 t.1) take_from (λ t. take_back t.0 t.1)

-- ---- the promises

pub u64_from_already_filled_from_settled : Once filled-number.Post
u64_from_already_filled_from_settled κ a r r' e e' p q = p ∙ sym q

pub u64_from_nothing_to_take_from_settled : Once none-number.Post
u64_from_nothing_to_take_from_settled κ a r r' e e' p q = p ∙ sym q

pub empty_settled : Once empty.Post
empty_settled κ a r r' e e' p q = p ∙ sym q

pub done_with_settled : Once done-with.Post
done_with_settled κ a r r' e e' p q = shown_fill_once r r' (p ∙ sym q)

pub take_done_reason_settled : Once take-done-reason.Post
take_done_reason_settled κ a r r' e e' p q = shown_take_once r r' (p ∙ sym q)
