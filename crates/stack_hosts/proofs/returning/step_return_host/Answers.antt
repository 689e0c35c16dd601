-- `stack_hosts::returning::step_return_host` meets its contract: what its calls ensure. Assumes nothing.
use Rattle.std.proofs.Common.{sym}
use Rattle.rules.specs.Hosts.{returned_host}
use Rattle.stack_hosts.proofs.returning.step_return_host.Goals as goal

pub returns : goal.returns
unfolding returned_host
returns c =
    rw (
      sym c.is_sized-some.ensures,
      sym c.host_frame-host.ensures,
      sym c.return_host_cells.ensures,
    ) c.step_return.ensures
