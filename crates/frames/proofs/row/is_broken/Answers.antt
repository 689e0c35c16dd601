-- `frames::row::is_broken` meets its contract: it is the rules as they stand. Assumes nothing.
use Rattle.std.proofs.Common.{refl}
use Rattle.frames.specs.Rows.{broken_row}
use Rattle.frames.proofs.row.is_broken.Goals as goal

pub returns : goal.returns
unfolding broken_row
returns c = refl
