-- `stack_hosts::parts::lent_in` meets its contract: what its calls ensure, part by part. Assumes nothing.
use Rattle.std.proofs.Common.{refl}
use Rattle.rules.specs.Hosts.{part_lent}
use Rattle.rules.proofs.OneAnswer.{after_same}
use Rattle.stack_hosts.proofs.parts.lent_in.Goals as goal

pub returns : goal.returns
unfolding part_lent
returns c =
    after_same _ _ _ _ _ _ _ _ c.at_offset.ensures refl refl refl
