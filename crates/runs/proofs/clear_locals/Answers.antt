-- `runs::clear_locals` meets its contract: beyond the end nothing is cleared. Assumes nothing.
use Rattle.std.proofs.Common.{arith}
use Rattle.runs.proofs.Loops.{cleared_beyond}
use Rattle.runs.proofs.clear_locals.Goals as goal

pub returns-then-cells-start : goal.returns-then-cells-start
returns-then-cells-start c = cleared_beyond _ _ _ (omega arith)
