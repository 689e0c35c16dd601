-- The slot that numbers say is `slot_said`. Assumes nothing.
use Rattle.std.proofs.Common.{◌≡◌, refl, Bool, true, false, not}
use Rattle.std.specs.Bool.{then_some}
use Rattle.choice.specs.Choose.{choose}
use Rattle.done.specs.declared.DoneReason.{DoneReason}
use Rattle.done.specs.declared.DoneSlot.{DoneSlot}
use Rattle.done.specs.Done.{no_reason, holds_reason}
use Rattle.face_leaves.specs.Slots.{slot_said}
use Rattle.face_leaves.proofs.slot.DoneSlotFromCReason.from.Goals as goal

with_reason : (empty : Bool) (r : DoneReason) → ◌≡◌ {A = DoneSlot} (record { reason = then_some (not empty) r }) (choose empty no_reason (holds_reason r))
unfolding choose
with_reason true r = refl
with_reason false r = refl

pub returns : goal.returns
unfolding slot_said
returns c = rw (c.then_some.ensures, c.from.ensures) (with_reason _ _)
