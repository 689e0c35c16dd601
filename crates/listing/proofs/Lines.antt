-- The lines of records one after another, and of two traces one behind the other. Assumes nothing.
--     lines_stopped              after a stop there are none
--     lines_both                 the lines of records, and of more behind them
--     text_both, said_both       of lines and of more behind them, what is said and its text
--     lines_join, listing_in_blocks
use Rattle.std.specs.Prelude.{is_some}
use mathlib.Core.Path.{◌≡◌, refl, sym, ap, ◌∙◌}
use mathlib.Core.Bool.{true}
use mathlib.Core.List.{List, [], ◌∷◌, ◌++◌, append_assoc}
use Rattle.choice.proofs.Choices.{chosen_first}
use Rattle.lines.specs.declared.Line.{Line}
use Rattle.request.specs.Requests.{Decoded}
use Rattle.request.specs.Entries.{entries_in}
use Rattle.request.proofs.Entries.{entries_join}
use Rattle.replay.specs.Running.{Running, ShownRan, ran, ran_all, replayed}
use Rattle.replay.proofs.Records.{ran_ended}
use Rattle.replay.proofs.Spent.{ran_all_join}
use Rattle.listing.specs.Listing.{lines_by, lines_of, Said, of_record, said_of, said_text, said_at_end, listing_of, text_of}
use Rattle.listing.specs.Blocks.{lines_text, LinesJoin, ListingInBlocks}

-- ---- after a stop
module _ (v : Running) (stopped : is_some v.stop ≡ true) where
  line_stopped : (d : Decoded) → lines_by v d ≡ []
  unfolding lines_by
  line_stopped d = sym (chosen_first _ _ _ _ _ (ap (λ (t : ShownRan). is_some t.run.stop) (sym (ran_ended v d stopped)) ∙ stopped) refl)

  pub lines_stopped : (ds : List Decoded) → lines_of v ds ≡ []
  unfolding lines_of
  lines_stopped [] = refl
  lines_stopped (d ∷ ds) =
      ap (λ ls. ls ++ lines_of (ran v d).run ds) (line_stopped d) ∙ ap (λ (t : ShownRan). lines_of t.run ds) (sym (ran_ended v d stopped)) ∙ lines_stopped ds

-- ---- and more behind them
pub lines_both : (v : Running) (ds es : List Decoded) → lines_of v (ds ++ es) ≡ lines_of v ds ++ lines_of (ran_all v ds) es
unfolding lines_of ran_all
lines_both v [] es = refl
lines_both v (d ∷ ds) es = ap (λ ls. lines_by v d ++ ls) (lines_both (ran v d).run ds es) ∙ sym (append_assoc (lines_by v d) _ _)

pub said_both : (ls ms : List Line) → said_of (ls ++ ms) ≡ said_of ls ++ said_of ms
said_both [] ms = refl
said_both (l ∷ ls) ms = ap (λ ss. of_record l ∷ ss) (said_both ls ms)

pub text_both : (ss ts : List Said) → text_of (ss ++ ts) ≡ text_of ss ++ text_of ts
unfolding text_of
text_both [] ts = refl
text_both (s ∷ ss) ts = ap (λ bs. said_text s ++ bs) (text_both ss ts) ∙ sym (append_assoc (said_text s) _ _)

pub text_lines : (ls ms : List Line) → text_of (said_of (ls ++ ms)) ≡ text_of (said_of ls) ++ text_of (said_of ms)
text_lines ls ms = ap text_of (said_both ls ms) ∙ text_both (said_of ls) (said_of ms)

-- ---- two traces
pub lines_text_both : (v : Running) (ds es : List Decoded) → lines_text v (ds ++ es) ≡ lines_text v ds ++ lines_text (ran_all v ds) es
unfolding lines_text
lines_text_both v ds es = ap (λ ls. text_of (said_of ls)) (lines_both v ds es) ∙ text_lines (lines_of v ds) (lines_of (ran_all v ds) es)

pub lines_join : LinesJoin
unfolding replayed
lines_join v a b whole = ap (lines_text v) (entries_join a b whole) ∙ lines_text_both v (entries_in a) (entries_in b)

pub listing_text_lem : (v : Running) (ds : List Decoded) → text_of (listing_of v ds) ≡ lines_text v ds ++ text_of (said_at_end (ran_all v ds))
unfolding listing_of lines_text
listing_text_lem v ds = text_both (said_of (lines_of v ds)) (said_at_end (ran_all v ds))

pub listing_in_blocks : ListingInBlocks
unfolding replayed
listing_in_blocks v a b whole =
    let first = entries_in a in
    let rest = entries_in b in
    ap (λ ds. text_of (listing_of v ds)) (entries_join a b whole)
    ∙ listing_text_lem v (first ++ rest)
    ∙ ap (λ u. lines_text v (first ++ rest) ++ text_of (said_at_end u)) (ran_all_join v first rest)
    ∙ ap (λ bytes. bytes ++ text_of (said_at_end (ran_all (ran_all v first) rest))) (lines_text_both v first rest)
    ∙ append_assoc (lines_text v first) _ _
    ∙ ap (λ bytes. lines_text v first ++ bytes) (sym (listing_text_lem (ran_all v first) rest))
