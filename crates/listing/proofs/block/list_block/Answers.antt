-- `listing::block::list_block` meets its contract: without room for its lines nothing is run, else all of it. Assumes nothing.
use mathlib.Core.Path.{sym, ◌∙◌}
use borrow.Author.Tests.{ltb-false}
use Rattle.listing.proofs.Steps.{block_none, block_all}
use Rattle.listing.proofs.block.list_block.Goals as goal

pub returns-then-is_narrow : goal.returns-then-is_narrow
returns-then-is_narrow c =
    block_none _ _ _ (sym c.is_narrow.ensures ∙ c.if-is_narrow.true)

pub list_records-requires : goal.list_records-requires
list_records-requires c =
    ltb-false _ _ (sym c.is_narrow.ensures ∙ c.if-is_narrow.false)

pub returns : goal.returns
returns c =
    c.list_records.ensures ∙ block_all _ _ _
    (sym c.is_narrow.ensures ∙ c.if-is_narrow.false)
