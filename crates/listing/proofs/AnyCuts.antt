-- The lines of the blocks of a tape are those of the whole trace. Assumes nothing.
--     lines_more                 a block's lines are those of the whole records that it completes
--     lines_so_far               and with those before them, of all whole records so far
--     lines_last                 the end's are those of the bytes left over
--     listing_any_cuts
use mathlib.Core.Path.{◌≡◌, refl, sym, ap, ◌∙◌}
use mathlib.Core.Bool.{Bool, true, false}
use mathlib.Core.List.{List, [], ◌∷◌, ◌++◌, append_assoc, append-nil}
use Prim.Native.Nat.{ℕ}
use native.Mathlib.Omega.{arith}
use lib.ListN.{length}
use borrow.Author.Tests.{ne_eqb}
use Rattle.choice.specs.Choose.{choose}
use Rattle.request.specs.Entries.{entries_in}
use Rattle.replay.specs.Running.{Running, replayed}
use Rattle.tape.specs.Tapes.{Taping, held_in, taping_with, begun, whole_in, rest_in, has_stopped, went_through, fed}
use Rattle.tape.specs.AnyCuts.{joined}
use Rattle.tape.proofs.Whole.{whole_joins, whole_none, whole_rest, whole_is, rest_short}
use Rattle.tape.proofs.AnyCuts.{held_back, fed_joins, begun_went, so_far, any_cuts}
use Rattle.listing.specs.Listing.{said_of, said_at_end, text_of}
use Rattle.listing.specs.Blocks.{lines_text}
use Rattle.listing.specs.Taped.{lines_fed, lines_told, lines_fed_all, ListingAnyCuts}
use Rattle.listing.proofs.Lines.{lines_stopped, lines_join, listing_text_lem}
use Rattle.listing.proofs.Feeding.{none_text}

-- ---- by what the tape is
text_stopped : (v : Running) (bytes : List ℕ) → has_stopped v ≡ true → lines_text v (entries_in bytes) ≡ []
unfolding lines_text text_of
text_stopped v bytes s = ap (λ ls. text_of (said_of ls)) (lines_stopped v s (entries_in bytes))

module _ (t : Taping) where
  fed_none_stopped : (block : List ℕ) → has_stopped t.run ≡ true → lines_fed t block ≡ []
  unfolding lines_fed choose
  fed_none_stopped block s = rw s

  told_none_stopped : has_stopped t.run ≡ true → lines_told t ≡ []
  unfolding lines_told choose
  told_none_stopped s = rw s

-- of a tape that holds bytes and goes on
module _ (v : Running) (l : List ℕ) (goes : has_stopped v ≡ false) where
  fed_none_empty : lines_fed (taping_with v l false) [] ≡ []
  unfolding lines_fed choose
  fed_none_empty = rw goes

  fed_lines : (block : List ℕ) → (length block ≡ 0 → ⊥)
      → lines_fed (taping_with v l false) block ≡ lines_text v (entries_in (whole_in (held_in (taping_with v l false) ++ block)))
  unfolding lines_fed choose
  fed_lines block some = rw (goes, ne_eqb (length block) 0 some)

  told_lines : lines_told (taping_with v l false) ≡ lines_text v (entries_in (held_in (taping_with v l false)))
  unfolding lines_told choose
  told_lines = rw goes

-- ---- after any bytes
module _ (v : Running) (a : List ℕ) where
  -- the run after the whole records
  abbrev ran_whole : Running
  ran_whole = replayed v (whole_in a)

  holds : has_stopped ran_whole ≡ false → went_through v a ≡ taping_with ran_whole (rest_in a) false
  unfolding went_through choose
  holds e = rw e

  ran_there : (went_through v a).run ≡ ran_whole
  unfolding went_through
  ran_there = refl

  lines_more : (b : List ℕ) → lines_fed (went_through v a) b ≡ lines_text ran_whole (entries_in (whole_in (rest_in a ++ b)))
  lines_more b = by (has_stopped ran_whole) refl b
    where
      by : (s : Bool) → has_stopped ran_whole ≡ s → (b : List ℕ) → lines_fed (went_through v a) b ≡ lines_text ran_whole (entries_in (whole_in (rest_in a ++ b)))
      by true e b = fed_none_stopped (went_through v a) b (ap has_stopped ran_there ∙ e) ∙ sym (text_stopped ran_whole (whole_in (rest_in a ++ b)) e)
      by false e [] =
          ap (λ t. lines_fed t []) (holds e) ∙ fed_none_empty ran_whole (rest_in a) e
          ∙ sym (ap (λ l. lines_text ran_whole (entries_in l))
          (ap whole_in (append-nil (rest_in a)) ∙ whole_none (rest_in a) (let short = rest_short a in omega arith)) ∙ none_text ran_whole)
      by false e (x ∷ xs) =
          ap (λ t. lines_fed t (x ∷ xs)) (holds e) ∙ fed_lines ran_whole (rest_in a) e (x ∷ xs) (λ z. absurd (omega arith))
          ∙ ap (λ l. lines_text ran_whole (entries_in (whole_in (l ++ x ∷ xs)))) (held_back (rest_in a) (rest_short a))

  lines_last : lines_told (went_through v a) ≡ lines_text ran_whole (entries_in (rest_in a))
  lines_last = by (has_stopped ran_whole) refl
    where
      by : (s : Bool) → has_stopped ran_whole ≡ s → lines_told (went_through v a) ≡ lines_text ran_whole (entries_in (rest_in a))
      by true e = told_none_stopped (went_through v a) (ap has_stopped ran_there ∙ e) ∙ sym (text_stopped ran_whole (rest_in a) e)
      by false e =
          ap lines_told (holds e) ∙ told_lines ran_whole (rest_in a) e ∙ ap (λ l. lines_text ran_whole (entries_in l)) (held_back (rest_in a) (rest_short a))

-- ---- one block after another
-- the lines of the whole records of some bytes
abbrev whole_text : Running → List ℕ → List ℕ
whole_text v a = lines_text v (entries_in (whole_in a))

whole_more : (a b : List ℕ) → whole_in (a ++ b) ≡ whole_in a ++ whole_in (rest_in a ++ b)
whole_more a b =
    ap (λ l. whole_in (l ++ b)) (sym (whole_rest a)) ∙ ap whole_in (append_assoc (whole_in a) (rest_in a) b) ∙ whole_joins (whole_in a) (rest_in a ++ b) (whole_is a)

lines_with : (v : Running) (a b : List ℕ) → whole_text v a ++ lines_fed (went_through v a) b ≡ whole_text v (a ++ b)
lines_with v a b =
    ap (λ text. whole_text v a ++ text) (lines_more v a b)
    ∙ sym (lines_join v (whole_in a) (whole_in (rest_in a ++ b)) (whole_is a))
    ∙ ap (λ l. lines_text v (entries_in l)) (sym (whole_more a b))

lines_so_far : (v : Running) (a : List ℕ) (bs : List (List ℕ)) → whole_text v a ++ lines_fed_all (went_through v a) bs ≡ whole_text v (a ++ joined bs)
unfolding lines_fed_all
lines_so_far v a [] = append-nil (whole_text v a) ∙ ap (whole_text v) (sym (append-nil a))
lines_so_far v a (b ∷ bs) =
    sym (append_assoc (whole_text v a) (lines_fed (went_through v a) b) (lines_fed_all (fed (went_through v a) b) bs))
    ∙ (λ i. lines_with v a b i ++ lines_fed_all (fed_joins v a b i) bs)
    ∙ lines_so_far v (a ++ b) bs
    ∙ ap (whole_text v) (append_assoc a b (joined bs))

-- from the first block on
lines_begun : (v : Running) (bs : List (List ℕ)) → lines_fed_all (begun v) bs ≡ whole_text v (joined bs)
lines_begun v bs =
    ap (λ t. lines_fed_all t bs) (begun_went v)
    ∙ ap (λ text. text ++ lines_fed_all (went_through v []) bs) (sym (ap (λ l. lines_text v (entries_in l)) (whole_none [] (omega arith)) ∙ none_text v))
    ∙ lines_so_far v [] bs

-- ---- the listing
lines_all : (v : Running) (a : List ℕ) → whole_text v a ++ lines_text (replayed v (whole_in a)) (entries_in (rest_in a)) ≡ lines_text v (entries_in a)
lines_all v a = sym (lines_join v (whole_in a) (rest_in a) (whole_is a)) ∙ ap (λ l. lines_text v (entries_in l)) (whole_rest a)

pub listing_any_cuts : ListingAnyCuts
unfolding replayed
listing_any_cuts v bs =
    let all = joined bs in
    let end = text_of (said_at_end (replayed v all)) in
    (λ i. lines_begun v bs i ++ (lines_told (so_far v bs i) ++ text_of (said_at_end (any_cuts v bs i))))
    ∙ ap (λ text. whole_text v all ++ (text ++ end)) (lines_last v all)
    ∙ sym (append_assoc (whole_text v all) (lines_text (replayed v (whole_in all)) (entries_in (rest_in all))) end)
    ∙ ap (λ text. text ++ end) (lines_all v all)
    ∙ sym (listing_text_lem v (entries_in all))
