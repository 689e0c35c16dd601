-- `listing::block::list_record` meets its contract: the run has stopped and there is no line, or the line is written. Assumes nothing.
use mathlib.Core.Path.{sym, ◌∙◌}
use Rattle.listing.proofs.Steps.{record_stopped, record_listed_lem}
use Rattle.listing.proofs.block.list_record.Goals as goal

pub returns-then-is_some : goal.returns-then-is_some
returns-then-is_some c =
    record_stopped _ _ _ _ _ _ _ _ c.run_next-turn.ensures
    (sym c.is_some.ensures ∙ c.if-is_some.true)

pub returns : goal.returns
returns c =
    record_listed_lem _ _ _ _ _ _ _ _
    c.run_next-turn.ensures
    (sym c.is_some.ensures ∙ c.if-is_some.false) _
    c.write_line.ensures
