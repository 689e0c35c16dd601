-- `face_ask::asking::cattlecleat_sync_registers` meets its contract. Assumes nothing.
use mathlib.Core.Path.{◌∙◌}
use Rattle.face_ask.proofs.Telling.{outcome_is_told, answer_at}
use Rattle.face_ask.proofs.asking.cattlecleat_sync_registers.Goals as goal

pub returns : goal.returns
returns c =
    outcome_is_told c.args.s c.sync_regs.result _ _ _ _
    c.outcome_told.ensures (c.sync_regs.ensures ∙ answer_at _ _ c.from.ensures _ _ _)
