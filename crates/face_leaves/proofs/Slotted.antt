-- The done slot told as numbers, from what the slot promises. Assumes nothing.
use Rattle.std.proofs.Common.{◌≡◌, refl, sym, ap, Option, Some, None, Result}
use Rattle.std.specs.Prelude.{⊤}
use Rattle.done.specs.declared.DoneReason.{DoneReason}
use Rattle.done.specs.declared.DoneReason.TheVariants.{Returned, HostError, OutOfFuel, Error}
use Rattle.done.specs.declared.DoneSlot.{DoneSlot}
use Rattle.done.specs.declared.AlreadyFilled.{AlreadyFilled}
use Rattle.done.specs.declared.NothingToTake.{NothingToTake}
use Rattle.done.specs.Done.{shown_fill, filled, shown_take, taken}
use Rattle.choice.specs.Choose.{choose}
use Rattle.face_leaves.specs.declared.slot.CReason.{CReason}
use Rattle.face_leaves.specs.Slots.{reason_said, slot_said, slot_to, filled_told, taken_told, SlotKept}

-- an answer a that is told as its variant v, of the slot s and the reason r that the numbers say, t and u
pub fill_is_told : (c : CReason) (v a : Result ⊤ AlreadyFilled) (new s t : DoneSlot) (r u : DoneReason) → a ≡ v → shown_fill a new ≡ filled s r
    → s ≡ t → r ≡ u → filled_told c (shown_fill v new) ≡ filled_told c (filled t u)
fill_is_told c v a new s t r u is fills same why = rw (sym is, sym same, sym why) (ap (filled_told c) fills)

pub take_is_told : (c : CReason) (v a : Result DoneReason NothingToTake) (new s t : DoneSlot) → a ≡ v → shown_take a new ≡ taken s → s ≡ t
    → taken_told c (shown_take v new) ≡ taken_told c (taken t)
take_is_told c v a new s t is takes same = rw (sym is, sym same) (ap (taken_told c) takes)

pub slot_kept : SlotKept
unfolding choose slot_said reason_said
slot_kept s = kept s.reason
  where
    kept : (o : Option DoneReason) → slot_said (slot_to (record { reason = o })) ≡ record { reason = o }
    kept None = refl
    kept (Some (Returned offset)) = refl
    kept (Some HostError) = refl
    kept (Some (OutOfFuel needed)) = refl
    kept (Some Error) = refl
