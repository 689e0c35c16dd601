-- `stack::syncing::store_ip` meets its contract: the two cases of the definition. Assumes nothing.
use Rattle.rules.specs.Shared.{ip_stored}
use mathlib.Core.Path.{sym}
use Rattle.stack.proofs.syncing.store_ip.Goals as goal

pub returns-in-None : goal.returns-in-None
unfolding ip_stored
returns-in-None c =
    rw c.in-None.is

pub returns-in-Some : goal.returns-in-Some
unfolding ip_stored
returns-in-Some c =
    rw (c.in-Some.is, sym c.from_top.ensures)
    c.sync_ip.ensures
