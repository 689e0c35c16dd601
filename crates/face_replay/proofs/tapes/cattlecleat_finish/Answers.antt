-- `face_replay::tapes::cattlecleat_finish` meets its contract. Assumes nothing.
use mathlib.Core.Path.{◌∙◌}
use Rattle.face_replay.proofs.Telling.{tape_is_told, finish_at}
use Rattle.face_replay.proofs.tapes.cattlecleat_finish.Goals as goal

pub returns : goal.returns
returns c =
    tape_is_told _ c.args.t _ _ _ _ c.tape_back.ensures
    (c.finish.ensures ∙ finish_at _ _ c.tape_from-tape.ensures _ _)
