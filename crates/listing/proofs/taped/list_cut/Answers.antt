-- `listing::taped::list_cut` meets its contract: a block is cut, what is whole is listed, and the rest is held. Assumes nothing.
use borrow.Author.Rules.{rules}
use native.Mathlib.Omega.{arith}
use Rattle.tape.specs.Tapes.{held_bytes}
use Rattle.tape.proofs.Going.{CutRun, cut_runs, first_most}
use Rattle.listing.proofs.Feeding.{cut_room, cut_listed_lem}
use Rattle.listing.proofs.taped.list_cut.Goals as goal

pub shared_ref_as_front-list_both : goal.shared_ref_as_front-list_both
shared_ref_as_front-list_both c =
    rw c.first_count.ensures (first_most c.cut_block-cut.result)

pub slice_bounds-list_both-count : goal.slice_bounds-list_both-count
slice_bounds-list_both-count c =
    -- where the block is cut
    let cut : CutRun (held_bytes c.args.t.now.kept c.args.t.now.held) c.args.block.now c.cut_block-cut.result =
    cut_runs c.args.t.now.kept c.args.t.now.held c.args.block.now c.cut_block-cut.result c.cut_block-cut.ensures in
    cut.ordered

pub slice_bounds-list_both-start : goal.slice_bounds-list_both-start
slice_bounds-list_both-start c =
    -- where the block is cut
    let cut : CutRun (held_bytes c.args.t.now.kept c.args.t.now.held) c.args.block.now c.cut_block-cut.result =
    cut_runs c.args.t.now.kept c.args.t.now.held c.args.block.now c.cut_block-cut.result c.cut_block-cut.ensures in
    let runs = cut in let order = runs.ordered in let end = runs.within in search rules

pub slice_bounds-list_both-end-2 : goal.slice_bounds-list_both-end-2
slice_bounds-list_both-end-2 c =
    -- where the block is cut
    let cut : CutRun (held_bytes c.args.t.now.kept c.args.t.now.held) c.args.block.now c.cut_block-cut.result =
    cut_runs c.args.t.now.kept c.args.t.now.held c.args.block.now c.cut_block-cut.result c.cut_block-cut.ensures in
    let runs = cut in let order = runs.ordered in let end = runs.within in search rules

pub list_both-listed-requires : goal.list_both-listed-requires
list_both-listed-requires c =
    let room = cut_room c.args.t.now.kept c.args.t.now.held c.args.block.now c.cut_block-cut.result c.cut_block-cut.ensures _ c.first_count.ensures in
    let enough = c.requires in
    omega (arith, room, enough)

pub returns : goal.returns
returns c =
    cut_listed_lem c.args.t.now.kept c.args.t.now.held c.args.block.now c.cut_block-cut.result c.cut_block-cut.ensures _ c.first_count.ensures _ _ _ _ _ _ _ _
    c.list_both-listed.ensures c.hold.ensures
