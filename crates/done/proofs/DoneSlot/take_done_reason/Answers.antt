-- `done::DoneSlot::take_done_reason` meets its contract: with a reason, and without. Assumes nothing.
use Rattle.std.proofs.Common.{◌≡◌, refl, Option, Some, None, ok_or}
use Rattle.choice.specs.Choose.{choose}
use Rattle.done.specs.declared.DoneReason.{DoneReason}
use Rattle.done.specs.Done.{no_reason, shown_take, take_tests, taken}
use Rattle.done.proofs.DoneSlot.take_done_reason.Goals as goal

out : (o : Option DoneReason) → shown_take (ok_or o (record {})) no_reason ≡ taken (record { reason = o })
unfolding choose take_tests taken
out None = refl
out (Some r) = refl

pub returns : goal.returns
returns c = rw (c.ok_or.ensures.value, c.empty.ensures) (out c.args.self.reason)
