-- `record::read_fields` meets its contract: at each return the test that led there says which case of `fields_at` holds. Assumes nothing.
use mathlib.Core.Path.{ap, ◌∙◌}
use Prim.Native.Nat.{ℕ}
use native.Mathlib.Nat.{add-sub_cancel_left}
use lib.ListN.{take, drop}
use Rattle.choice.proofs.Choices.{choices}
use Rattle.record.specs.Form.{record_size}
use Rattle.record.specs.Reading.{fields_in, fields_at}
use Rattle.record.proofs.read_fields.Goals as goal

pub returns-then-too_short : goal.returns-then-too_short
unfolding fields_at
returns-then-too_short c =
    search choices

pub returns : goal.returns
unfolding fields_at fields_in
returns c =
    let read = c.fields_in.ensures ∙ ap (λ (n : ℕ). fields_in (take n (drop c.args.at c.args.bytes.now))) (add-sub_cancel_left c.args.at record_size) in
    search (choices, read)
