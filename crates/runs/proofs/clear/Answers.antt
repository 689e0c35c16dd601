-- `runs::clear` meets its contract. Assumes nothing.
use Rattle.std.proofs.Common.{arith}
use Rattle.std.proofs.Math.ListN.{length-set}
use borrow.Author.Rules.{rules}
use Rattle.runs.specs.Runs.{cleared}
use Rattle.runs.proofs.Loops.{clear_turn, clear_done}
use Rattle.runs.proofs.clear.Goals as goal

pub loop-i-preserved : goal.loop-i-preserved
loop-i-preserved c = record {
  size = simp length-set (search rules);
  left = clear_turn c.loop-i.cells c.loop-i.i c.args.to _ (omega arith) c.loop-i.invariant.left;
}

pub returns : goal.returns
unfolding cleared
returns c = clear_done c.loop-i.cells c.loop-i.i c.args.to _ (omega arith) c.loop-i.invariant.left
