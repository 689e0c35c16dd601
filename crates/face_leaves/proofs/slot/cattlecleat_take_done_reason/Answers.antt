-- `face_leaves::slot::cattlecleat_take_done_reason` meets its contract. Assumes nothing.
use Rattle.choice.specs.Choose.{choose}
use Rattle.face_leaves.proofs.Slotted.{take_is_told}
use Rattle.face_leaves.proofs.slot.cattlecleat_take_done_reason.Goals as goal

pub returns-in-Ok : goal.returns-in-Ok
unfolding choose
returns-in-Ok c =
    rw (c.from-in-Ok.ensures, c.from-in-Ok-2.ensures)
    (take_is_told _ _ _ _ _ _ c.in-Ok.is c.take_done_reason-answer.ensures c.from.ensures)

pub returns-in-Err : goal.returns-in-Err
unfolding choose
returns-in-Err c =
    rw c.from-in-Err.ensures
    (take_is_told _ _ _ _ _ _ c.in-Err.is c.take_done_reason-answer.ensures c.from.ensures)
