-- `runs::put_values` meets its contract. Assumes nothing.
use Rattle.std.proofs.Common.{arith}
use Rattle.runs.specs.Runs.{values_put}
use Rattle.runs.proofs.Lists.{part_stored}
use Rattle.runs.proofs.put_values.Goals as goal

pub returns : goal.returns
unfolding values_put
returns c = part_stored c.args.part.now _ c.args.values.now 0 _ (omega arith) (omega arith) c.copy_from_slice.ensures.after
