-- `face_leaves::slot::cattlecleat_done_with` meets its contract. Assumes nothing.
use Rattle.choice.specs.Choose.{choose}
use Rattle.face_leaves.proofs.Slotted.{fill_is_told}
use Rattle.face_leaves.proofs.slot.cattlecleat_done_with.Goals as goal

pub returns-in-Ok : goal.returns-in-Ok
unfolding choose
returns-in-Ok c =
    rw c.from-in-Ok.ensures
    (fill_is_told _ _ _ _ _ _ _ _ c.in-Ok.is c.done_with-answer.ensures c.from.ensures c.from-2.ensures)

pub returns-in-Err : goal.returns-in-Err
unfolding choose
returns-in-Err c =
    rw c.from-in-Err.ensures
    (fill_is_told _ _ _ _ _ _ _ _ c.in-Err.is c.done_with-answer.ensures c.from.ensures c.from-2.ensures)
