-- `face_ask::asking::cattlecleat_ask` meets its contract. Assumes nothing.
use mathlib.Core.Path.{◌∙◌}
use Rattle.face_ask.proofs.Telling.{outcome_is_told, asked_at, none_is_told}
use Rattle.face_ask.proofs.asking.cattlecleat_ask.Goals as goal

pub returns-in-Ok : goal.returns-in-Ok
returns-in-Ok c =
    outcome_is_told c.args.s c.ask.result _ _ _ _ c.outcome_told.ensures
    (c.ask.ensures
    ∙ asked_at _ _ c.from.ensures _ _ _ _ _ c.try_from.ensures c.in-Ok.is)

pub returns-in-Err : goal.returns-in-Err
returns-in-Err c =
    none_is_told _ _ c.args.s _ _ _ _ _ c.host_told.ensures
    c.no_host.ensures c.try_from.ensures c.in-Err.is
