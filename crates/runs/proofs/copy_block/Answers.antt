-- `runs::copy_block` meets its contract: the array's part comes to hold the cells, and then their place. Assumes nothing.
use Rattle.std.proofs.Common.{arith}
use Rattle.runs.proofs.Loops.{copied_by}
use Rattle.runs.proofs.copy_block.Goals as goal

pub returns : goal.returns
returns c =
    copied_by c.args.cells.now _ _ _ c.args.from c.args.to c.args.n (omega arith) (omega arith) c.copy_from_slice.ensures.after c.copy_from_slice-2.ensures.after
