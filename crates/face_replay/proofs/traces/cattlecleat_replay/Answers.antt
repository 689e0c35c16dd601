-- `face_replay::traces::cattlecleat_replay` meets its contract. Assumes nothing.
use mathlib.Core.Path.{◌∙◌}
use Rattle.face_replay.proofs.Telling.{run_is_told, replay_at}
use Rattle.face_replay.proofs.traces.cattlecleat_replay.Goals as goal

pub returns : goal.returns
returns c =
    run_is_told _ c.args.run
    c.replay.result _ _ _ c.run_back.ensures
    (c.replay.ensures
    ∙ replay_at _ _ c.run_from.ensures _ _ _)
