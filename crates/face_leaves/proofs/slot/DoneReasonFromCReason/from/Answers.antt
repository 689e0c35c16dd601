-- The reason that numbers say is `reason_said`. Assumes nothing.
use Rattle.std.proofs.Common.{rules}
use Rattle.choice.specs.Choose.{choose}
use Rattle.choice.proofs.Choices.{choices}
use Rattle.face_leaves.specs.Slots.{reason_said}
use Rattle.face_leaves.proofs.slot.DoneReasonFromCReason.from.Goals as goal

pub returns-in-1 : goal.returns-in-1
unfolding choose reason_said
returns-in-1 c =
    rw c.in-1.is

pub returns-in-2 : goal.returns-in-2
unfolding choose reason_said
returns-in-2 c =
    rw c.in-2.is

pub returns-in-3 : goal.returns-in-3
unfolding choose reason_said
returns-in-3 c =
    rw c.in-3.is

pub returns-in_default : goal.returns-in_default
unfolding reason_said
returns-in_default c = search (rules, choices)
