-- `tape::cut::cut_from` meets its contract. Assumes nothing.
use Rattle.tape.proofs.Cutting.{cut_behind_lem}
use Rattle.tape.proofs.cut.cut_from.Goals as goal

pub returns : goal.returns
returns c =
    cut_behind_lem c.args.block.now c.args.from c.requires _ _ c.put_bytes.ensures
