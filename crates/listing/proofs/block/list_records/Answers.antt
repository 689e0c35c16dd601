-- `listing::block::list_records` meets its contract: what is left to list from the record reached comes to what there was to list. Assumes nothing.
use native.Mathlib.Omega.{arith}
use mathlib.Core.Path.{◌≡◌, sym, ap, ◌∙◌}
use Prim.Native.Nat.{◌+◌, ◌*◌}
use Rattle.record.specs.Form.{record_size}
use Rattle.request.specs.Entries.{entries_left}
use Rattle.replay.specs.Running.{running_of}
use Rattle.listing.proofs.Filling.{block_left, record_left_lem, record_used, stop_left, end_left, block_whole}
use Rattle.listing.proofs.block.list_records.Goals as goal

pub returns-then-is_some : goal.returns-then-is_some
returns-then-is_some c =
    let room = c.loop-k.invariant.1 in
    let long = c.loop-k.invariant.0 in
    let test = c.loop-k-test.true in
    let count = c.div_ceil-k-end.ensures in
    sym (stop_left _ _ _ _ (sym c.is_some.ensures ∙ c.if-is_some.true))
    ∙ record_left_lem _ _ (c.loop-k.k * record_size) _ _ (omega arith) (omega arith) _ c.list_record-next.ensures
    ∙ c.loop-k.invariant.2 ∙ block_whole _ _ _

pub loop-k-preserved : goal.loop-k-preserved
loop-k-preserved c =
    let room = c.loop-k.invariant.1 in
    let long = c.loop-k.invariant.0 in
    let test = c.loop-k-test.true in
    let count = c.div_ceil-k-end.ensures in
    let used = record_used _ _ (c.loop-k.k * record_size) _ _ (omega arith) (omega arith) _ c.list_record-next.ensures in
    let next : (c.loop-k.k + 1) * record_size ≡ c.loop-k.k * record_size + record_size = omega arith in (
      used.1 ∙ long,
      omega (arith, used),
      ap
          (λ n.
          block_left (running_of c.list_record-next.result.run c.list_record-next.new.words c.list_record-next.new.cells) (entries_left c.args.bytes.now n)
          c.list_record-next.result.used c.list_record-next.new.out)
          next
          ∙ record_left_lem _ _ (c.loop-k.k * record_size) _ _ (omega arith) (omega arith) _ c.list_record-next.ensures ∙ c.loop-k.invariant.2,
    )

pub returns : goal.returns
returns c =
    let test = c.loop-k-test.false in
    let count = c.div_ceil-k-end.ensures in
    sym (end_left _ c.args.bytes.now (c.loop-k.k * record_size) _ _ (omega arith)) ∙ c.loop-k.invariant.2 ∙ block_whole _ _ _
