-- `stack_hosts::routine::summed_in` meets its contract: what its calls ensure, part by part. Assumes nothing.
use Rattle.std.proofs.Common.{sym, refl}
use Rattle.rules.proofs.OneAnswer.{after_same}
use Rattle.stack_hosts.specs.Routine.{sum_stored}
use Rattle.stack_hosts.proofs.routine.summed_in.Goals as goal

pub returns : goal.returns
unfolding sum_stored
returns c =
    after_same _ _ _ _ _ _ _ _
    c.at_offset.ensures
    refl
    refl
    (rw (sym c.host_params.ensures.1, sym c.sum_of-sum.ensures) c.store_results.ensures)
