-- `tape::feeding::go_on` meets its contract: a block is cut, what is whole is run, and the rest is held. Assumes nothing.
use mathlib.Core.Path.{refl}
use borrow.Author.Rules.{rules}
use Rattle.tape.specs.Tapes.{held_bytes}
use Rattle.tape.proofs.Going.{CutRun, cut_runs, first_most, part_ran, cut_went}
use Rattle.tape.proofs.feeding.go_on.Goals as goal

pub shared_ref_as_front-first : goal.shared_ref_as_front-first
shared_ref_as_front-first c =
    rw c.first_count.ensures (first_most c.cut_block-cut.result)

pub slice_bounds-run_whole-count : goal.slice_bounds-run_whole-count
slice_bounds-run_whole-count c =
    -- where the block was cut, as it is known before its own records are run
    let cut : CutRun (held_bytes c.args.t.now.kept c.args.t.now.held) c.args.block.now c.cut_block-cut.result =
    cut_runs c.args.t.now.kept c.args.t.now.held _ _ c.cut_block-cut.ensures in
    cut.ordered

pub slice_bounds-run_whole-start : goal.slice_bounds-run_whole-start
slice_bounds-run_whole-start c =
    -- where the block was cut, as it is known before its own records are run
    let cut : CutRun (held_bytes c.args.t.now.kept c.args.t.now.held) c.args.block.now c.cut_block-cut.result =
    cut_runs c.args.t.now.kept c.args.t.now.held _ _ c.cut_block-cut.ensures in
    let order = cut.ordered in
    let end = cut.within in
    search rules

pub slice_bounds-run_whole-end : goal.slice_bounds-run_whole-end
slice_bounds-run_whole-end c =
    -- where the block was cut, as it is known before its own records are run
    let cut : CutRun (held_bytes c.args.t.now.kept c.args.t.now.held) c.args.block.now c.cut_block-cut.result =
    cut_runs c.args.t.now.kept c.args.t.now.held _ _ c.cut_block-cut.ensures in
    let order = cut.ordered in
    let end = cut.within in
    search rules

pub returns : goal.returns
returns c =
    cut_went c.args.t.now.kept c.args.t.now.held _ _ c.cut_block-cut.ensures _ _ _ _ _ _
    (part_ran _ _ c.cut_block-cut.result.first _ _ refl c.first_count.ensures) c.run_whole-next.ensures c.hold.ensures
