-- `stack::answer::at_host` meets its contract: what its call ensures. Assumes nothing.
use Rattle.stack.proofs.answer.at_host.Goals as goal

pub returns : goal.returns
returns c =
    rw c.zeroed.ensures
