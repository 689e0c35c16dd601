-- `record::form::put` meets its contract: the part that is lent to be written is back in its place. Assumes nothing.
use mathlib.Core.Path.{ap, ◌∙◌}
use mathlib.Core.List.{◌++◌}
use Prim.Native.Nat.{ℕ}
use native.Mathlib.Nat.{add-sub_cancel_left}
use lib.ListN.{length, take, drop}
use lib.Seq.{sets}
use Rattle.runs.proofs.Lists.{lent_back, length_within}
use Rattle.record.proofs.form.put.Goals as goal

pub returns : goal.returns
returns g c =
    let l = c.args.part.now in
    let all = add-sub_cancel_left c.args.at g.row.N in
    let same = c.copy_from_slice.ensures.after in
    let size = c.copy_from_slice.ensures.len ∙ ap (λ (k : ℕ). length (take k (drop c.args.at l))) all ∙ length_within g.row.N c.args.at l c.requires in
    ap (λ (k : ℕ). take c.args.at l ++ (c.copy_from_slice.new.self ++ drop k (drop c.args.at l))) all
    ∙ lent_back l c.copy_from_slice.new.self c.args.at g.row.N c.requires size
    ∙ ap (sets l c.args.at) same
