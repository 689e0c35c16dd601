-- `runs::copy_cells` meets its contract. Assumes nothing.
use Rattle.std.proofs.Common.{arith}
use Rattle.std.proofs.Math.ListN.{length-set}
use borrow.Author.Rules.{rules}
use Rattle.runs.proofs.Loops.{cell_turn, copied_done}
use Rattle.runs.proofs.copy_cells.Goals as goal

pub loop-k-preserved : goal.loop-k-preserved
loop-k-preserved c = record {
  size = simp length-set (search rules);
  left = cell_turn c.loop-k.cells c.args.from c.args.to c.args.n c.loop-k.k _ (omega arith) (omega arith) (omega arith) c.loop-k.invariant.left;
}

pub returns : goal.returns
returns c = copied_done c.loop-k.cells c.args.from c.args.to c.args.n c.loop-k.k _ (omega arith) (omega arith) (omega arith) c.loop-k.invariant.left
