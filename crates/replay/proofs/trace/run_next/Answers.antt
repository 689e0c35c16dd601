-- `replay::trace::run_next` meets its contract: the end, a run that has stopped, or the record at the place. Assumes nothing.
use Rattle.std.proofs.Common.{sym, ap, ◌∙◌, arith}
use Rattle.replay.specs.declared.run.Ran.{Ran}
use Rattle.replay.specs.Running.{running_of, shown_ran}
use Rattle.replay.specs.Turns.{turn_of}
use Rattle.replay.proofs.Records.{ran_ended}
use Rattle.replay.proofs.Packing.{parts_ran}
use Rattle.replay.proofs.Turns.{turn_end, turn_runs}
use Rattle.replay.proofs.trace.run_next.Goals as goal

pub returns-then-bytes-at : goal.returns-then-bytes-at
returns-then-bytes-at c =
    ap (λ (x : Ran). turn_of (shown_ran x c.args.words.now c.args.cells.now) c.args.at) c.nothing_ran.ensures
    ∙ turn_end _ c.args.bytes.now c.args.at c.if-bytes-at.true

pub returns-then-is_some : goal.returns-then-is_some
returns-then-is_some c =
    turn_runs (running_of c.args.run c.args.words.now c.args.cells.now) c.args.bytes.now c.args.at (omega arith) _ c.place_after-next.ensures _
    (ap (λ (x : Ran). shown_ran x c.args.words.now c.args.cells.now) c.nothing_ran-then-is_some.ensures
    ∙ ran_ended _ _ (sym c.is_some.ensures ∙ c.if-is_some.true))

pub returns : goal.returns
returns c =
    turn_runs (running_of c.args.run c.args.words.now c.args.cells.now) c.args.bytes.now c.args.at (omega arith) _ c.place_after-next.ensures _
    (parts_ran c.args.run (sym c.is_some.ensures ∙ c.if-is_some.false) _ c.from-f.ensures _ c.from.ensures _ _ _
    c.turn.result _ _
    c.turn.ensures _ c.ran_again.ensures)
