-- `request::next_request` meets its contract: the reader's answer says what stands at the place. Assumes nothing.
use Rattle.std.proofs.Common.{sym, ap, ◌∙◌}
use native.Mathlib.Omega.{arith}
use Rattle.choice.proofs.Choices.{choices}
use Rattle.record.specs.Reading.{shown_read}
use Rattle.request.specs.Walk.{next_at, next_asks, next_refused}
use Rattle.request.proofs.Nexts.{next_found, next_bad}
use Rattle.request.proofs.next_request.Goals as goal

pub returns-then-bytes-at : goal.returns-then-bytes-at
unfolding next_at
returns-then-bytes-at c =
    search choices

pub returns-in-Ok : goal.returns-in-Ok
returns-in-Ok c =
    let found = sym (ap shown_read c.in-Ok.is) ∙ c.read_record.ensures in
    (λ i. next_asks (c.place_after-next.ensures i) (c.request_in.ensures i)) ∙ next_found c.args.bytes.now c.args.at (omega arith) _ found

pub returns-in-Err : goal.returns-in-Err
returns-in-Err c =
    let bad = sym (ap shown_read c.in-Err.is) ∙ c.read_record.ensures in
    (λ i. next_refused (c.place_after-next.ensures i) 10) ∙ next_bad c.args.bytes.now c.args.at (omega arith) bad
