-- `stack_hosts::returning::host_frame` meets its contract: at each return the tests that led there choose the case. Assumes nothing.
use Rattle.std.proofs.Common.{refl}
use Rattle.choice.proofs.Choices.{chosen_first, chosen_second}
use Rattle.stack_hosts.proofs.returning.host_frame.Goals as goal

pub returns-then-not-some : goal.returns-then-not-some
returns-then-not-some c =
    rw c.no_host.ensures (chosen_second _ _ _ _ _ c.if-not-some.true refl)

pub returns : goal.returns
returns c =
    chosen_first _ _ _ _ _ c.if-not-some.false refl
