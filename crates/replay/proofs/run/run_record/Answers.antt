-- `replay::run::run_record` meets its contract: a run that has stopped, or its two parts. Assumes nothing.
use Rattle.std.proofs.Common.{sym, ap, ◌∙◌}
use Rattle.replay.specs.declared.run.Ran.{Ran}
use Rattle.replay.specs.Running.{shown_ran}
use Rattle.replay.proofs.Records.{ran_ended}
use Rattle.replay.proofs.Packing.{parts_ran}
use Rattle.replay.proofs.run.run_record.Goals as goal

pub returns-then-is_some : goal.returns-then-is_some
returns-then-is_some c =
    ap (λ (x : Ran). shown_ran x c.args.words.now c.args.cells.now) c.nothing_ran.ensures
    ∙ ran_ended _ c.args.entry (sym c.is_some.ensures ∙ c.if-is_some.true)

pub returns : goal.returns
returns c =
    parts_ran c.args.run (sym c.is_some.ensures ∙ c.if-is_some.false) _ c.from-f.ensures _ c.from.ensures _ _
    c.args.entry c.run_entry.result _ _ c.run_entry.ensures _ c.ran_again.ensures
