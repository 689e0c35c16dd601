-- `stack_hosts::hosting::step_host` meets its contract: what its calls ensure, part by part. Assumes nothing.
use Rattle.std.proofs.Common.{sym}
use Rattle.rules.specs.Hosts.{hosted}
use Rattle.rules.proofs.OneAnswer.{after_same}
use Rattle.stack_hosts.proofs.hosting.step_host.Goals as goal

pub returns : goal.returns
unfolding hosted
returns c =
    after_same _ _ _ _ _ _ _ _
    (rw (sym c.top_start-offset.ensures) c.at_host.ensures)
    c.moved_state.ensures
    c.store_ip.ensures
    c.prepare_host_frame.ensures
