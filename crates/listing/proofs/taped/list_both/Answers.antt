-- `listing::taped::list_both` meets its contract: the second text lies behind the first. Assumes nothing.
use borrow.Author.Rules.{rules}
use Prim.Native.Nat.{◌<◌, ◌^◌}
use native.Mathlib.Omega.{arith}
use lib.ListN.{length}
use Rattle.listing.proofs.Feeding.{both_used, both_fits, both_listed_lem}
use Rattle.listing.proofs.taped.list_both.Goals as goal

pub slice_bounds-list_block-count : goal.slice_bounds-list_block-count
slice_bounds-list_block-count c =
    let used = both_used _ _ c.args.own.now _ c.requires _ c.list_block-one.ensures in
    omega (arith, used)

pub slice_bounds-list_block-start : goal.slice_bounds-list_block-start
slice_bounds-list_block-start c =
    let used = both_used _ _ c.args.own.now _ c.requires _ c.list_block-one.ensures in
    search (rules, used)

pub overflow_add-result : goal.overflow_add-result
overflow_add-result c =
    -- a buffer's length is a number of 64 bits
    let out_long : length c.args.out.now < 2 ^ 64 =
    search rules in
    let fits = both_fits _ _ c.args.own.now _ c.requires _ c.list_block-one.ensures _ c.list_block-more.ensures in
    let long = out_long in
    search (rules, fits, long)

pub returns : goal.returns
returns c =
    both_listed_lem _ _ c.args.own.now _ c.requires _ c.list_block-one.ensures _ c.list_block-more.ensures _ (omega arith)
