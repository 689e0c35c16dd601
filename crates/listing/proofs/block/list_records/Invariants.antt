-- `listing::block::list_records` meets its contract: what is left to list from the record reached comes to what there was to list. Assumes nothing.
use mathlib.Core.Path.{◌≡◌}
use Prim.Native.Nat.{◌+◌, ◌*◌, ◌-◌, ◌≤◌}
use lib.ListN.{length}
use Rattle.lines.specs.Text.{longest_text}
use Rattle.record.specs.Form.{record_size}
use Rattle.request.specs.Entries.{record_count, entries_left, entries_in}
use Rattle.replay.specs.Running.{running_of}
use Rattle.listing.proofs.Filling.{block_left}
use Rattle.listing.proofs.block.list_records.Given as goal

abbrev pub invariant-loop-k : goal.invariant-loop-k
invariant-loop-k l =
    (length l.out ≡ length l.fn.out)
    × (l.used + (record_count (length l.bytes) - l.k) * longest_text ≤ length l.fn.out)
    × (block_left (running_of l.so_far l.words l.cells) (entries_left l.bytes (l.k * record_size)) l.used l.out ≡ block_left (running_of l.fn.run l.fn.words l.fn.cells) (entries_in l.bytes) 0 l.fn.out)
