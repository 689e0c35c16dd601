-- `replay::trace::replay` meets its contract: what is left to say comes to what there was to run. Assumes nothing.
use Rattle.std.proofs.Common.{sym, ap, ◌∙◌}
use Rattle.replay.specs.Running.{Running, running_of, ran_all, replayed}
use Rattle.replay.proofs.Spent.{stop_stays}
use Rattle.replay.proofs.Packing.{parts_running}
use Rattle.replay.proofs.Turns.{left_first, left_ends, loop_stops, loop_goes}
use Rattle.replay.proofs.trace.replay.Goals as goal

pub returns-then-is_some : goal.returns-then-is_some
unfolding replayed
returns-then-is_some c =
    sym (stop_stays (running_of c.args.run c.args.words.now c.args.cells.now) _ (sym c.is_some.ensures ∙ c.if-is_some.true))

pub loop-record-init : goal.loop-record-init
unfolding replayed
loop-record-init c =
    ap (ran_all _) (left_first _ _ c.args.bytes.now c.as_chunks.ensures.front c.as_chunks.ensures.back)
    ∙ ap (λ (v : Running). replayed v c.args.bytes.now)
    (parts_running c.args.run (sym c.is_some.ensures ∙ c.if-is_some.false) _ c.from-f.ensures _ c.from-m.ensures c.args.words.now c.args.cells.now)

pub returns-then-is_some-2 : goal.returns-then-is_some-2
returns-then-is_some-2 c =
    loop_stops _ _ _ _ _ _ c.loop-record-test.true _ _ c.loop-record.invariant c.turn-went.result _ _ c.turn-went.ensures
    (sym c.is_some-in-loop-record.ensures ∙ c.if-is_some-2.true) _ c.ran_again.ensures

pub loop-record-preserved : goal.loop-record-preserved
loop-record-preserved c =
    loop_goes _ _ _ _ _ _ c.loop-record-test.true _ _ c.loop-record.invariant c.turn-went.result _ _ c.turn-went.ensures
    (sym c.is_some-in-loop-record.ensures ∙ c.if-is_some-2.false)

pub returns : goal.returns
unfolding replayed
returns c =
    c.short_end.ensures ∙ sym (ap (ran_all _) (left_ends _ _ _ c.loop-record-test.false)) ∙ c.loop-record.invariant
