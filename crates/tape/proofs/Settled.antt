-- Each public promise allows one outcome: one result, and one list of words and of cells where they are lent to be written. Assumes nothing.
use mathlib.Core.Path.{◌≡◌, refl, sym, ap, ◌∙◌}
use mathlib.Core.Bool.{cond}
use mathlib.Core.List.{List}
use Prim.Native.Nat.{ℕ}
use lib.Dec.{eqb}
use Rattle.std.specs.Prelude.{⊤, Result, Ok, Err}
use Rattle.choice.specs.Once.{Once, OnceSeen, beside}
use Rattle.replay.specs.Running.{run_of}
use Rattle.tape.specs.declared.tape.Tape.{Tape}
use Rattle.tape.specs.declared.tape.AfterEnd.{AfterEnd}
use Rattle.tape.specs.Tapes.{Taping, ShownFed, fed_number, shown_feeding}
use Rattle.tape.proofs.tape.begin.Reads as begin
use Rattle.tape.proofs.tape.hold.Reads as hold
use Rattle.tape.proofs.tape.Tape.rests.Reads as rests
use Rattle.tape.proofs.cut.cut_block.Reads as cut-block
use Rattle.tape.proofs.cut.Cut.first_count.Reads as first-count
use Rattle.tape.proofs.cut.held_count.Reads as held-count
use Rattle.tape.proofs.feeding.feed.Reads as feed
use Rattle.tape.proofs.feeding.finish.Reads as finish

pub begin_settled : Once begin.Post
begin_settled κ a r r' e e' p q = p ∙ sym q

pub rests_settled : Once rests.Post
rests_settled κ a r r' e e' p q = p ∙ sym q

pub hold_settled : Once hold.Post
hold_settled κ a r r' e e' p q = p ∙ sym q

pub cut_block_settled : Once cut-block.Post
cut_block_settled κ a r r' e e' p q = p ∙ sym q

pub first_count_settled : Once first-count.Post
first_count_settled κ a r r' e e' p q = p ∙ sym q

pub held_count_settled : Once held-count.Post
held_count_settled κ a r r' e e' p q = p ∙ sym q

-- what is shown of a tape, with what both buffers hold, tells all three
abbrev tape_unseen : Taping → Tape
tape_unseen t = record { run = run_of t.run; kept = t.kept; held = t.held; ended = t.ended }

pub finish_settled : OnceSeen finish.Post (λ κ r e. beside e.0.now (beside e.1.0.now e.1.1.0.now))
finish_settled κ a r r' e e' p q =
    ap (λ (t : Taping). beside (tape_unseen t) (beside t.run.world.words t.run.world.cells)) (p ∙ sym q)

-- so does what is shown with a number, which tells the answer
abbrev fed_of_number : ℕ → Result ⊤ AfterEnd
fed_of_number n = cond (eqb n 0) (Ok tt) (Err record {})

fed_back : (f : Result ⊤ AfterEnd) → fed_of_number (fed_number f) ≡ f
fed_back (Ok done) = refl
fed_back (Err after_end) = refl

abbrev feeding_seen : ShownFed → Result ⊤ AfterEnd × (Tape × (List ℕ × List ℕ))
feeding_seen s =
    beside (fed_of_number s.number) (beside (tape_unseen s.tape) (beside s.tape.run.world.words s.tape.run.world.cells))

feeding_back_lem : (r : Result ⊤ AfterEnd) (t : Tape) (words cells : List ℕ)
    → feeding_seen (shown_feeding r t words cells) ≡ beside r (beside t (beside words cells))
feeding_back_lem r t words cells = ap (λ x. beside x (beside t (beside words cells))) (fed_back r)

pub feed_settled : OnceSeen feed.Post (λ κ r e. beside r (beside e.0.now (beside e.1.0.now e.1.1.0.now)))
feed_settled κ a r r' e e' p q =
    sym (feeding_back_lem r e.0.now e.1.0.now e.1.1.0.now) ∙ ap feeding_seen (p ∙ sym q) ∙ feeding_back_lem r' e'.0.now e'.1.0.now e'.1.1.0.now
