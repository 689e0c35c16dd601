-- `tape::cut::cut_block` meets its contract, by the three ways in which a block is cut. Assumes nothing.
use borrow.Author.Rules.{rules}
use native.Mathlib.Omega.{arith}
use mathlib.Core.Path.{◌≡◌, sym}
use Prim.Native.Nat.{◌-◌}
use lib.ListN.{length, length-take}
use lib.Seq.{length-take-le}
use Rattle.record.specs.Form.{record_size}
use Rattle.tape.proofs.Cutting.{cut_unheld, cut_short, cut_full}
use Rattle.tape.proofs.cut.cut_block.Goals as goal

pub returns-then-h-eq0 : goal.returns-then-h-eq0
returns-then-h-eq0 c =
    cut_unheld _ _ _ c.held_count-h.ensures _ _ c.if-h-eq0.true c.cut_from.ensures

pub slice_bounds-put_bytes-end : goal.slice_bounds-put_bytes-end
slice_bounds-put_bytes-end c =
    sym (length-take-le c.held_count-h.result c.args.kept (search rules))

pub put_bytes-begun-requires : goal.put_bytes-begun-requires
put_bytes-begun-requires c =
    let kept_long : length c.args.kept ≡ record_size =
    search rules in
    let long = length-take c.held_count-h.result c.args.kept in
    let all = kept_long in
    let count = c.held_count-h.ensures in
    omega arith

pub returns-then-block-missing : goal.returns-then-block-missing
returns-then-block-missing c =
    let kept_long : length c.args.kept ≡ record_size =
    search rules in
    cut_short _ _ _ c.held_count-h.ensures _ kept_long _ _ c.if-block-missing.true
    c.put_bytes-begun.ensures c.put_bytes.ensures

pub slice_bounds-put_bytes-end-2 : goal.slice_bounds-put_bytes-end-2
slice_bounds-put_bytes-end-2 c =
    sym (length-take-le (record_size - c.held_count-h.result) c.args.block.now c.if-block-missing.false)

pub put_bytes-requires-2 : goal.put_bytes-requires-2
put_bytes-requires-2 c =
    let long = length-take (record_size - c.held_count-h.result) c.args.block.now in
    let count = c.held_count-h.ensures in
    omega arith

pub returns : goal.returns
returns c =
    let kept_long : length c.args.kept ≡ record_size =
    search rules in
    cut_full _ _ _ c.held_count-h.ensures _ kept_long _ _ c.if-h-eq0.false c.if-block-missing.false
    c.put_bytes-2.ensures c.cut_from-2.ensures
