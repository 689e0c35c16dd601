-- `stack::shared::is_stray_ip` meets its contract: what its call ensures. Assumes nothing.
use Rattle.stack.proofs.shared.is_stray_ip.Goals as goal

pub returns : goal.returns
returns c =
    rw c.is_some.ensures
