-- `face_ask::asking::cattlecleat_open` meets its contract. Assumes nothing.
use Rattle.face_ask.proofs.Telling.{opening_is_told}
use Rattle.face_ask.proofs.asking.cattlecleat_open.Goals as goal

pub returns : goal.returns
returns c =
    opening_is_told c.open-out.result _ _ _ c.from.ensures c.outcome_told.ensures
    c.open-out.ensures
