-- `stack_calls::pushing::is_missing_ip` meets its contract: what its call ensures. Assumes nothing.
use Rattle.stack_calls.proofs.pushing.is_missing_ip.Goals as goal

pub returns : goal.returns
returns c =
    rw c.is_some.ensures
