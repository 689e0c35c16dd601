-- `record::write_record` meets its contract: at each return the tests that led there say which case of `record_written` holds, and the part that
-- was lent to be spelt is back in its place. Assumes nothing.
use mathlib.Core.Path.{refl, sym, ap, ◌∙◌}
use mathlib.Core.List.{List, ◌++◌}
use Prim.Native.Nat.{ℕ, ◌+◌}
use native.Mathlib.Nat.{add-sub_cancel_left}
use lib.ListN.{length, take, drop}
use borrow.Author.Tests.{ltb-false}
use Rattle.choice.proofs.Choices.{choices}
use Rattle.runs.proofs.Lists.{lent_back}
use Rattle.record.specs.Form.{record_size, record_bytes}
use Rattle.record.specs.Reading.{write_number, write_tests, record_written}
use Rattle.record.proofs.write_record.Goals as goal

pub returns-then-too_short : goal.returns-then-too_short
unfolding write_tests record_written
returns-then-too_short c =
    search choices

pub returns-then-not-is_lawful : goal.returns-then-not-is_lawful
unfolding write_tests record_written
returns-then-not-is_lawful c =
    search choices

pub returns : goal.returns
unfolding write_tests record_written
returns c =
    let l = c.args.bytes.now in
    let long = ltb-false (length l) (c.args.at + record_size) (sym c.too_short.ensures ∙ c.if-too_short.false) in
    let back = ap (λ (k : ℕ). take c.args.at l ++ (c.spell.new.part ++ drop k (drop c.args.at l))) (add-sub_cancel_left c.args.at record_size)
    ∙ ap (λ (ys : List ℕ). take c.args.at l ++ (ys ++ drop record_size (drop c.args.at l))) c.spell.ensures
    ∙ lent_back l (record_bytes c.args.r) c.args.at record_size long refl in
    let shown = ap (write_number 0) back in
    search (choices, shown)
