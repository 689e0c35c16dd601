-- `stack::opening::fresh_state` meets its contract: what its call ensures. Assumes nothing.
use Rattle.stack.proofs.opening.fresh_state.Goals as goal

pub returns : goal.returns
returns c =
    rw c.zeroed.ensures
