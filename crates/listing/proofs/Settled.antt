-- Each public promise allows one outcome: one result, and one list of words, of cells and of text where they are lent to be written. Assumes nothing.
use mathlib.Core.Path.{◌≡◌, refl, sym, ap, ◌∙◌}
use mathlib.Core.Bool.{cond}
use mathlib.Core.List.{List}
use Prim.Native.Nat.{ℕ}
use lib.Dec.{eqb}
use Rattle.std.specs.Prelude.{Result, Ok, Err}
use Rattle.choice.specs.Once.{Once, OnceSeen, beside}
use Rattle.lines.specs.Text.{ShownText}
use Rattle.replay.specs.Running.{run_of}
use Rattle.tape.specs.declared.tape.Tape.{Tape}
use Rattle.tape.specs.Tapes.{Taping}
use Rattle.listing.specs.declared.block.Listed.{Listed}
use Rattle.listing.specs.declared.taped.LinesError.{LinesError}
use Rattle.listing.specs.declared.taped.LinesError.TheVariants.{AfterEnd, NoRoom}
use Rattle.listing.specs.Blocks.{ListedBlock}
use Rattle.listing.specs.Taped.{ShownLines, fed_lines_number, fed_lines_used, shown_lines}
use Rattle.listing.proofs.taped.LinesErrorFromAfterEnd.from.Reads as lines-refused
use Rattle.listing.proofs.block.list_block.Reads as list-block
use Rattle.listing.proofs.end.list_end.Reads as list-end
use Rattle.listing.proofs.taped.list_feed.Reads as list-feed
use Rattle.listing.proofs.taped.list_finish.Reads as list-finish

-- what is shown of a block tells what was handed back
abbrev listed_from : ListedBlock → Listed
listed_from b = record { run = run_of b.run; used = b.used }

pub list_block_settled : OnceSeen list-block.Post (λ κ r e. beside r (beside e.1.0.now (beside e.1.1.0.now e.1.1.1.1.0.now)))
list_block_settled κ a r r' e e' p q =
    ap (λ (b : ListedBlock). beside (listed_from b) (beside b.run.world.words (beside b.run.world.cells b.out))) (p ∙ sym q)

pub list_end_settled : OnceSeen list-end.Post (λ κ r e. beside r e.1.0.now)
list_end_settled κ a r r' e e' p q = ap (λ (t : ShownText). beside t.next t.bytes) (p ∙ sym q)

-- what is shown of a block of a tape, or of its end, tells the answer, the tape and all three buffers
abbrev fed_lines_from : (number used : ℕ) → Result ℕ LinesError
fed_lines_from number used = cond (eqb number 0) (Ok used) (Err (cond (eqb number 22) AfterEnd NoRoom))

fed_lines_back : (f : Result ℕ LinesError) → fed_lines_from (fed_lines_number f) (fed_lines_used f) ≡ f
fed_lines_back (Ok used) = refl
fed_lines_back (Err AfterEnd) = refl
fed_lines_back (Err NoRoom) = refl

abbrev tape_seen : Taping → Tape
tape_seen t = record { run = run_of t.run; kept = t.kept; held = t.held; ended = t.ended }

abbrev lines_seen : ShownLines → Result ℕ LinesError × (Tape × (List ℕ × (List ℕ × List ℕ)))
lines_seen s =
    beside (fed_lines_from s.number s.used)
    (beside (tape_seen s.tape) (beside s.tape.run.world.words (beside s.tape.run.world.cells s.out)))

lines_back : (r : Result ℕ LinesError) (t : Tape) (words cells out : List ℕ)
    → lines_seen (shown_lines r t words cells out) ≡ beside r (beside t (beside words (beside cells out)))
lines_back r t words cells out = ap (λ x. beside x (beside t (beside words (beside cells out)))) (fed_lines_back r)

lines_once : (r r' : Result ℕ LinesError) (t t' : Tape) (words words' cells cells' out out' : List ℕ)
    → shown_lines r t words cells out ≡ shown_lines r' t' words' cells' out'
    → beside r (beside t (beside words (beside cells out))) ≡ beside r' (beside t' (beside words' (beside cells' out')))
lines_once r r' t t' words words' cells cells' out out' e =
    sym (lines_back r t words cells out) ∙ ap lines_seen e ∙ lines_back r' t' words' cells' out'

pub list_feed_settled : OnceSeen list-feed.Post (λ κ r e. beside r (beside e.0.now (beside e.1.0.now (beside e.1.1.0.now e.1.1.1.1.0.now))))
list_feed_settled κ a r r' e e' p q = lines_once r r' _ _ _ _ _ _ _ _ (p ∙ sym q)

pub list_finish_settled : OnceSeen list-finish.Post (λ κ r e. beside r (beside e.0.now (beside e.1.0.now (beside e.1.1.0.now e.1.1.1.0.now))))
list_finish_settled κ a r r' e e' p q = lines_once r r' _ _ _ _ _ _ _ _ (p ∙ sym q)

pub lines_error_from_after_end_from_settled : Once lines-refused.Post
lines_error_from_after_end_from_settled κ a r r' e e' p q = p ∙ sym q
