-- Demands 1 and 2, of the done slot and of aligned addresses, in Rattle and over the C face.
--     FillHeard s r f, TakeHeard s t     a reason r was put into the slot s, or one was taken out of it, and f or t was answered
--     AlignHeard ip base t               an address was asked for, and t was answered
--     SlotsFilled, SlotsTaken            12 exactly where the slot is filled, 13 exactly where it is empty; and then the slot stays as it was
--     AddressesAligned                   15 exactly where document 01 says so
use Rattle.std.specs.Prelude.{◌≡◌, true, false, ◌↔◌, ◌⊎◌, ℕ, Result}
use Rattle.regs.specs.declared.align.NoAddress.{NoAddress}
use Rattle.regs.specs.Align.{ShownAligned, shown_aligned, align_refused, align_done, Unalignable}
use Rattle.regs.proofs.align_relative_to.Reads as align-relative-to
use Rattle.done.specs.declared.DoneReason.{DoneReason}
use Rattle.done.specs.declared.DoneSlot.{DoneSlot}
use Rattle.done.specs.Done.{is_filled, ShownFill, shown_fill, fill_refused, fill_done, ShownTake, shown_take, take_refused, take_done}
use Rattle.done.proofs.DoneSlot.done_with.Reads as done-with
use Rattle.done.proofs.DoneSlot.take_done_reason.Reads as take-done-reason
use Rattle.face_leaves.specs.declared.slot.CDone.{CDone}
use Rattle.face_leaves.specs.declared.leaves.CAligned.{CAligned}
use Rattle.face_leaves.specs.Slots.{reason_said, slot_said}
use Rattle.face_leaves.proofs.cattlecleat_done_with.Reads as c-done-with
use Rattle.face_leaves.proofs.cattlecleat_take_done_reason.Reads as c-take-done-reason
use Rattle.face_leaves.proofs.cattlecleat_align.Reads as c-align

-- ---- what the numbers of an answer say

abbrev pub fill_said : CDone → ShownFill
fill_said r = record { number = r.number; slot = slot_said r.slot }

abbrev pub take_said : CDone → ShownTake
take_said r = record { number = r.number; reason = r.reason.kind; value = r.reason.amount; slot = slot_said r.slot }

abbrev pub align_said : CAligned → ShownAligned
align_said r = record { number = r.number; address = r.address }

-- ---- what was heard

pub data FillHeard : DoneSlot → DoneReason → ShownFill → Type 0 where
  by_done_with : (κ : _) (a : _) (r : _) (e : _) → done-with.Post κ a r e → FillHeard a.0 a.1.0 (shown_fill r.0 r.1)
  by_cattlecleat_done_with : (κ : _) (a : _) (r : CDone) (e : _) → c-done-with.Post κ a r e
      → FillHeard (slot_said a.0) (reason_said a.1.0) (fill_said r)

pub data TakeHeard : DoneSlot → ShownTake → Type 0 where
  by_take_done_reason : (κ : _) (a : _) (r : _) (e : _) → take-done-reason.Post κ a r e → TakeHeard a.0 (shown_take r.0 r.1)
  by_cattlecleat_take_done_reason : (κ : _) (a : _) (r : CDone) (e : _) → c-take-done-reason.Post κ a r e → TakeHeard (slot_said a.0) (take_said r)

pub data AlignHeard : (ip base : ℕ) → ShownAligned → Type 0 where
  by_align_relative_to : (κ : _) (a : _) (r : Result ℕ NoAddress) (e : _) → align-relative-to.Post κ a r e → AlignHeard a.0 a.1.0 (shown_aligned r)
  by_cattlecleat_align : (κ : _) (a : _) (r : CAligned) (e : _) → c-align.Post κ a r e → AlignHeard a.0 a.1.0 (align_said r)

-- ---- the statements

-- 12: the slot with its reason; else it holds the one that was given
abbrev pub SlotsFilled : Type 0
SlotsFilled =
    (s : DoneSlot) (reason : DoneReason) (f : ShownFill) → FillHeard s reason f
    → (f.number ≡ 12 ↔ is_filled s ≡ true) × ((f ≡ fill_refused s 12) ⊎ (f ≡ fill_done reason))

-- 13: zeros, and the slot as it was; else the reason that it held, and an empty slot
abbrev pub SlotsTaken : Type 0
SlotsTaken =
    (s : DoneSlot) (t : ShownTake) → TakeHeard s t
    → (t.number ≡ 13 ↔ is_filled s ≡ false) × ((t ≡ take_refused s 13) ⊎ (t ≡ take_done s))

-- 15: zero; else base and the distance rounded up
abbrev pub AddressesAligned : Type 0
AddressesAligned =
    (ip base : ℕ) (t : ShownAligned) → AlignHeard ip base t
    → (t.number ≡ 15 ↔ Unalignable ip base) × ((t ≡ align_refused 15) ⊎ (t ≡ align_done ip base))
