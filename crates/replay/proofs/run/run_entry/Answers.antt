-- `replay::run::run_entry` meets its contract: a request by its record, or a record that reads badly. Assumes nothing.
use Rattle.std.proofs.Common.{sym, ap, ◌∙◌}
use Rattle.replay.specs.Running.{ran_on}
use Rattle.replay.specs.ByKind.{entry_for}
use Rattle.replay.proofs.Arms.{arm_bad}
use Rattle.replay.proofs.ByKind.{request_says}
use Rattle.replay.proofs.run.run_entry.Goals as goal

pub returns-in-Ok : goal.returns-in-Ok
returns-in-Ok c =
    c.kind_turn.ensures
    ∙ ap (ran_on _) (ap entry_for c.record_of.ensures ∙ request_says _ ∙ sym c.in-Ok.is)

pub returns-in-Err : goal.returns-in-Err
returns-in-Err c =
    arm_bad c.args.f c.args.m _ _ _ c.refused_at.ensures _ (sym c.in-Err.is)
