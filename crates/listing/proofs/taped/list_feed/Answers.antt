-- `listing::taped::list_feed` meets its contract: at each return the tests that led there say which case holds. Assumes nothing.
use borrow.Author.Rules.{rules}
use borrow.Author.Tests.{ltb-false}
use mathlib.Core.Path.{sym, ap, ◌∙◌}
use Rattle.std.specs.Prelude.{Ok}
use Rattle.tape.specs.Tapes.{taping_of}
use Rattle.tape.proofs.Feeds.{asked_rests, asked_refused, asked_goes}
use Rattle.listing.proofs.Answering.{room_found, lines_number, lines_still, lines_refused_lem, lines_narrow, lines_go}
use Rattle.listing.proofs.taped.list_feed.Goals as goal

pub returns-in_err-rests : goal.returns-in_err-rests
returns-in_err-rests c =
    let t = taping_of c.args.t.now c.args.words.now c.args.cells.now in
    let asked = asked_refused _ _ _ c.rests.ensures _ c.in_err-rests.was in
    lines_number _ t c.args.out.now c.from_residual.ensures.1 ∙ lines_refused_lem t _ _ asked.0 asked.1.0 asked.1.1

pub returns-then-branch : goal.returns-then-branch
returns-then-branch c =
    lines_still (taping_of c.args.t.now c.args.words.now c.args.cells.now) _ _
    (asked_rests _ _ _ c.rests.ensures (c.in_ok-rests.was ∙ ap Ok c.if-branch.true))

pub returns-then-is_narrow_behind : goal.returns-then-is_narrow_behind
returns-then-is_narrow_behind c =
    let t = taping_of c.args.t.now c.args.words.now c.args.cells.now in
    let asked = asked_goes _ _ _ c.rests.ensures (c.in_ok-rests.was ∙ ap Ok c.if-branch.false) in
    lines_narrow t _ _ asked.0 asked.1.0 asked.1.1 _
    (room_found t c.args.block.now c.args.out.now (search rules) c.is_narrow_behind.result c.is_narrow_behind.ensures)
    c.if-is_narrow_behind.true

pub list_cut-requires : goal.list_cut-requires
list_cut-requires c =
    let t = taping_of c.args.t.now c.args.words.now c.args.cells.now in
    let found = room_found t c.args.block.now c.args.out.now (search rules) c.is_narrow_behind.result c.is_narrow_behind.ensures in
    ltb-false _ _ (sym found ∙ c.if-is_narrow_behind.false)

pub returns : goal.returns
returns c =
    let t = taping_of c.args.t.now c.args.words.now c.args.cells.now in
    let asked = asked_goes _ _ _ c.rests.ensures (c.in_ok-rests.was ∙ ap Ok c.if-branch.false) in
    lines_go t _ _ asked.0 asked.1.0 asked.1.1 _
    (room_found t c.args.block.now c.args.out.now (search rules) c.is_narrow_behind.result c.is_narrow_behind.ensures)
    c.if-is_narrow_behind.false _ c.list_cut.ensures
