-- `record::table::keeps_row` meets its contract. Assumes nothing.
use Rattle.record.specs.Coded.{lawful_as}
use Rattle.record.proofs.table.keeps_row.Goals as goal

pub returns : goal.returns
unfolding lawful_as
returns c =
    rw c.allows.ensures
