-- `lines::put` meets its contract: the part that was lent comes back with the bytes. Assumes nothing.
use native.Mathlib.Omega.{arith}
use Rattle.runs.proofs.Lists.{lent_back}
use Rattle.lines.proofs.put.Goals as goal

pub returns-clause-out_after : goal.returns-clause-out_after
returns-clause-out_after c =
    rw c.copy_from_slice.ensures.after (lent_back c.args.out.now c.args.text.now c.args.at _ (omega arith) (omega arith))
