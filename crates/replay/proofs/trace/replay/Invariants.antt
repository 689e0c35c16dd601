-- `replay::trace::replay` meets its contract: what is left to say comes to what there was to run. Assumes nothing.
use Rattle.std.proofs.Common.{◌≡◌}
use Rattle.replay.specs.Running.{running_of, ran_all, replayed}
use Rattle.replay.specs.Packing.{running_again}
use Rattle.replay.proofs.Turns.{left_to_say}
use Rattle.replay.proofs.trace.replay.Given as goal

abbrev pub invariant-loop-record : goal.invariant-loop-record
invariant-loop-record l =
    ran_all (running_again l.f l.m l.words l.cells) (left_to_say l.records l.record-index l.rest) ≡ replayed (running_of l.fn.run l.fn.words l.fn.cells) l.fn.bytes
