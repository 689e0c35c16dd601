-- `runs::copy_down` meets its contract: beyond the end nothing is copied, and as many cells as are there. Assumes nothing.
use Rattle.std.proofs.Common.{arith}
use Rattle.runs.proofs.Loops.{copied_beyond, copied_there}
use Rattle.runs.proofs.copy_down.Goals as goal

pub returns-then-cells-start : goal.returns-then-cells-start
returns-then-cells-start c = copied_beyond _ _ _ _ (omega arith)

pub returns-then-cells-from : goal.returns-then-cells-from
returns-then-cells-from c = copied_beyond _ _ _ _ (omega arith)

pub returns-then-n-le-FEW : goal.returns-then-n-le-FEW
returns-then-n-le-FEW c = copied_there _ _ _ _ _ _ c.cells_there-n.ensures c.copy_cells.ensures

pub returns : goal.returns
returns c = copied_there _ _ _ _ _ _ c.cells_there-n.ensures c.copy_blocks.ensures
