-- `runs::copy_blocks` meets its contract. Assumes nothing.
use Rattle.std.proofs.Common.{arith}
use borrow.Author.Rules.{rules}
use Rattle.runs.proofs.Loops.{block_turn, copied_done}
use Rattle.runs.proofs.copy_blocks.Goals as goal

pub loop-k-preserved : goal.loop-k-preserved
loop-k-preserved c = record {
  size = search rules;
  rest = rw c.copy_block.ensures (block_turn c.loop-k.cells c.args.from c.args.to c.args.n c.loop-k.k _ (omega arith) (omega arith) c.min.result (omega arith) c.min.ensures c.loop-k.invariant.rest);
}

pub returns : goal.returns
returns c = copied_done c.loop-k.cells c.args.from c.args.to c.args.n c.loop-k.k _ (omega arith) (omega arith) (omega arith) c.loop-k.invariant.rest
