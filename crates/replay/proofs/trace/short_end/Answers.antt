-- `replay::trace::short_end` meets its contract: the end, or a short record. Assumes nothing.
use Rattle.std.specs.Prelude.{Err}
use Rattle.std.proofs.Common.{sym, refl, ap, ◌∙◌, rules}
use Rattle.record.specs.Reading.{bad_record}
use Rattle.replay.specs.Running.{ran_all, replayed}
use Rattle.replay.proofs.Packing.{run_running, went_leaves}
use Rattle.replay.proofs.Arms.{arm_bad}
use Rattle.replay.proofs.Turns.{short_none, short_bad}
use Rattle.replay.proofs.trace.short_end.Goals as goal

pub returns-then-is_empty : goal.returns-then-is_empty
unfolding replayed ran_all
returns-then-is_empty c =
    run_running c.args.f c.args.m c.args.words.now c.args.cells.now _ c.run_again.ensures ∙ ap (ran_all _) (sym (short_none c.args.rest.now (search rules)))

pub returns : goal.returns
unfolding replayed ran_all
returns c =
    let refused = arm_bad c.args.f c.args.m c.args.words.now c.args.cells.now _ c.refused_at.ensures (Err bad_record) refl in
    went_leaves c.args.f c.args.m c.args.words.now c.args.cells.now (Err bad_record) _ _ _ refused _ c.ran_again.ensures
    ∙ ap (ran_all _) (sym (short_bad c.args.rest.now (search rules) c.requires))
