-- `listing::taped::list_finish` meets its contract: at each return the tests that led there say which case holds. Assumes nothing.
use borrow.Author.Rules.{rules}
use mathlib.Core.Path.{◌≡◌}
use lib.ListN.{length}
use Rattle.record.specs.Form.{record_size}
use Rattle.listing.proofs.Feeding.{held_listed}
use Rattle.listing.proofs.Answering.{end_still, end_narrow, end_goes}
use Rattle.listing.proofs.taped.list_finish.Goals as goal

pub returns-then-is_some-t : goal.returns-then-is_some-t
returns-then-is_some-t c =
    end_still _ _ _ c.is_some.ensures c.if-is_some-t.true

pub returns-then-is_narrow : goal.returns-then-is_narrow
returns-then-is_narrow c =
    let kept_long : length c.args.t.now.kept ≡ record_size =
    search rules in
    end_narrow _ _ _ c.is_some.ensures c.if-is_some-t.false kept_long _ c.held_count-held.ensures _
    c.is_narrow.ensures c.if-is_narrow.true

pub returns : goal.returns
returns c =
    let kept_long : length c.args.t.now.kept ≡ record_size =
    search rules in
    end_goes _ _ _ c.is_some.ensures c.if-is_some-t.false kept_long _ c.held_count-held.ensures _
    c.is_narrow.ensures c.if-is_narrow.false _ (held_listed _ c.args.t.now.kept c.args.t.now.held _ _ _ c.list_block-listed.ensures c.held_count-held.ensures)
