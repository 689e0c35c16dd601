-- The done slot as numbers: a reason is 1 returned (offset), 2 host error, 3 out of fuel (amount needed), any other an error; a slot is a reason, or 0: empty.
--     reason_said c, reason_to r         the reason that the numbers say, and the numbers of a reason: 4 for an error, 0 beside an error
--     slot_said c, slot_to s             so of a slot
--     slot_after c number left          the slot after a call; on a refusal the one that came, c
--     filled_told c f, taken_told c t    what a call on the slot hands out
-- One statement, SlotKept: a slot handed out and in again is that slot.
use Rattle.std.specs.Prelude.{◌≡◌, ℕ, ◌==◌, nat_le}
use Rattle.choice.specs.Choose.{choose}
use Rattle.done.specs.declared.DoneReason.{DoneReason}
use Rattle.done.specs.declared.DoneReason.TheVariants.{Returned, HostError, OutOfFuel, Error}
use Rattle.done.specs.declared.DoneSlot.{DoneSlot}
use Rattle.done.specs.Done.{no_reason, holds_reason, reason_number, reason_value, held_reason, held_value, ShownFill, ShownTake}
use Rattle.face_leaves.specs.declared.slot.CReason.{CReason}
use Rattle.face_leaves.specs.declared.slot.CDone.{CDone}

unfoldable pub reason_said : CReason → DoneReason
reason_said c =
    choose (c.kind == 1) (Returned c.amount)
    (choose (c.kind == 2) HostError
    (choose (c.kind == 3) (OutOfFuel c.amount)
    Error))

abbrev pub reason_with : (kind amount : ℕ) → CReason
reason_with kind amount = record { kind = kind; amount = amount }

abbrev pub reason_to : DoneReason → CReason
reason_to r = reason_with (reason_number r) (reason_value r)

unfoldable pub slot_said : CReason → DoneSlot
slot_said c = choose (c.kind == 0) no_reason (holds_reason (reason_said c))

abbrev pub slot_to : DoneSlot → CReason
slot_to s = reason_with (held_reason s) (held_value s)

abbrev pub done_with : (number : ℕ) (reason slot : CReason) → CDone
done_with number reason slot = record { number = number; reason = reason; slot = slot }

abbrev pub slot_after : CReason → (number : ℕ) → CReason → CReason
slot_after c number left = choose (nat_le 2 number) c left

abbrev pub filled_told : CReason → ShownFill → CDone
filled_told c f = done_with f.number (reason_with 0 0) (slot_after c f.number (slot_to f.slot))

abbrev pub taken_told : CReason → ShownTake → CDone
taken_told c t = done_with t.number (reason_with t.reason t.value) (slot_after c t.number (slot_to t.slot))

abbrev pub SlotKept : Type 0
SlotKept = (s : DoneSlot) → slot_said (slot_to s) ≡ s
