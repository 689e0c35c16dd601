-- `stack::opening::refused_opening` meets its contract: what its call ensures. Assumes nothing.
use Rattle.stack.proofs.opening.refused_opening.Goals as goal

pub returns : goal.returns
returns c =
    rw c.fresh_state.ensures
