-- The lines of a block of a tape, as the code finds them. Assumes nothing.
--     none_text, lines_room              no bytes have no lines; the lines of so many bytes have room where as many of the longest have
--     both_used, both_fits, both_listed_lem  bytes listed behind others
--     held_listed                        what is held
--     cut_room, cut_listed_lem               a block, cut where tape says
use mathlib.Core.Path.{◌≡◌, refl, sym, ap, ◌∙◌}
use mathlib.Core.List.{List, [], ◌∷◌, ◌++◌, append-nil, append_assoc}
use Prim.Native.Nat.{ℕ, zero, suc, ◌+◌, ◌-◌, ◌*◌, ◌/◌, ◌≤◌, min}
use native.Mathlib.Omega.{arith}
use lib.ListN.{length, take, drop, length-append, length-take, length-drop, drop_of_length-le}
use lib.Seq.{sets, sets-eq, length-sets, take_all, drop-drop}
use borrow.Author.Tests.{le-ltb}
use Rattle.runs.proofs.Lists.{sets_append}
use Rattle.lines.specs.Text.{longest_text}
use Rattle.record.specs.Form.{record_size}
use Rattle.request.specs.Walk.{next_place}
use Rattle.request.specs.Entries.{entry_at, record_count, entries_from, entries_left, entries_in}
use Rattle.request.proofs.Entries.{entries_end}
use Rattle.replay.specs.declared.run.Run.{Run}
use Rattle.replay.specs.Running.{Running, running_of, ran, replayed}
use Rattle.tape.specs.declared.tape.Tape.{Tape}
use Rattle.tape.specs.declared.cut.Cut.{Cut}
use Rattle.tape.specs.Tapes.{most_held, held_bytes, taping_of, whole_bytes, whole_in, tape_holds, went_through}
use Rattle.tape.specs.Cuts.{first_count, cut_of}
use Rattle.tape.proofs.Going.{first_run, own_run, cut_runs, cut_went}
use Rattle.listing.specs.Listing.{lines_by, lines_of, said_of, text_of}
use Rattle.listing.specs.Blocks.{lines_text, block_room, ListedBlock, block_of, block_with, block_listed}
use Rattle.listing.specs.Taped.{both_listed, cut_listed, lines_out, lines_done}
use Rattle.listing.proofs.Lines.{lines_join}
use Rattle.listing.proofs.Filling.{text_first, text_short}
use Rattle.listing.proofs.Steps.{block_all}

-- ---- how long a text can be
no_lines_of_none : (v : Running) → lines_text v [] ≡ []
unfolding lines_text lines_of text_of
no_lines_of_none v = refl

pub none_text : (v : Running) → lines_text v (entries_in []) ≡ []
none_text v = ap (lines_text v) (entries_end [] 0 (omega arith)) ∙ no_lines_of_none v

lines_short : (v : Running) (bytes : List ℕ) (k at : ℕ) → length (lines_text v (entries_from bytes k at)) ≤ k * longest_text
unfolding entries_from
lines_short v bytes zero at = rw (no_lines_of_none v) (omega arith)
lines_short v bytes (suc k) at =
    let d = entry_at bytes at in
    let rest = entries_from bytes k (next_place (length bytes) at) in
    let lines = text_of (said_of (lines_by v d)) in
    let more-lines = lines_text (ran v d).run rest in
    let all : length (lines_text v (d ∷ rest)) ≡ length lines + length more-lines = ap length (text_first v d rest) ∙ length-append lines more-lines in
    let one = text_short v d in
    let more = lines_short (ran v d).run bytes k (next_place (length bytes) at) in
    omega arith

pub lines_room : (v : Running) (bytes : List ℕ) → length (lines_text v (entries_in bytes)) ≤ block_room (record_count (length bytes))
unfolding entries_left
lines_room v bytes = let short = lines_short v bytes (record_count (length bytes - 0)) 0 in omega arith

-- ---- bytes behind others
-- a part up to the end that is lent, written at its start, and comes back
part_laid : (l vs : List ℕ) (a : ℕ) → a + length vs ≤ length l
    → take a l ++ (sets (take (length l - a) (drop a l)) 0 vs ++ drop (length l - a) (drop a l)) ≡ sets l a vs
part_laid l vs a h =
    let part = drop a l in
    let long = length-drop a l in
    let none : 0 + length vs ≡ length vs = omega arith in
    ap (λ p. take a l ++ (sets p 0 vs ++ drop (length l - a) part)) (take_all (length l - a) part (omega arith))
    ∙ ap (λ p. take a l ++ (sets part 0 vs ++ p)) (drop_of_length-le part {i = length l - a} (omega arith))
    ∙ ap (λ p. take a l ++ p) (append-nil (sets part 0 vs) ∙ sets-eq vs part 0 (omega arith))
    ∙ ap (λ k. take a l ++ (vs ++ drop k part)) none
    ∙ ap (λ p. take a l ++ (vs ++ p)) (drop-drop (length vs) a l)
    ∙ sym (append_assoc (take a l) vs (drop (a + length vs) l))
    ∙ sym (sets-eq vs l a h)

module _ (v : Running) (a b out : List ℕ) (room : block_room (record_count (length a) + record_count (length b)) ≤ length out) (x : ListedBlock)
    (e : x ≡ block_listed v a out)
  where
    told_first : x ≡ block_with (replayed v a) (lines_text v (entries_in a)) out
    told_first = e ∙ sym (block_all v a out (le-ltb (length out) (block_room (record_count (length a))) (omega arith)))

    pub both_used : (x.used ≤ block_room (record_count (length a))) × (length x.out ≡ length out)
    both_used =
        let used = ap (λ (l : ListedBlock). l.used) told_first in
        let fits = lines_room v a in
        (omega arith, ap (λ (l : ListedBlock). length l.out) told_first ∙ length-sets out 0 (lines_text v (entries_in a)))

    -- the part that is lent for the second
    abbrev behind : List ℕ
    behind = take (length x.out - x.used) (drop x.used x.out)

    module _ (y : ListedBlock) (f : y ≡ block_listed x.run b behind) where
      abbrev more : List ℕ
      more = lines_text (replayed v a) (entries_in b)

      behind_long : length behind ≡ length out - x.used
      behind_long =
          let used = both_used in
          let all = length-drop x.used x.out in
          length-take (length x.out - x.used) (drop x.used x.out) ∙ omega arith

      told_second : y ≡ block_with (replayed (replayed v a) b) more behind
      told_second =
          let used = both_used in
          let long = behind_long in
          f ∙ sym (block_all x.run b behind (le-ltb (length behind) (block_room (record_count (length b))) (omega arith)))
          ∙ ap (λ (l : ListedBlock). block_with (replayed l.run b) (lines_text l.run (entries_in b)) behind) told_first

      pub both_fits : x.used + y.used ≤ length out
      both_fits =
          let first = both_used in
          let used = ap (λ (l : ListedBlock). l.used) told_second in
          let fits = lines_room (replayed v a) b in
          omega arith

      -- the second text, where the first ends
      laid_behind : take x.used x.out ++ (y.out ++ drop (length x.out - x.used) (drop x.used x.out)) ≡ sets x.out x.used more
      laid_behind =
          let fits = both_fits in
          let used = ap (λ (l : ListedBlock). l.used) told_second in
          let long = both_used in
          ap (λ (l : ListedBlock). take x.used x.out ++ (l.out ++ drop (length x.out - x.used) (drop x.used x.out))) told_second
          ∙ part_laid x.out more x.used (omega arith)

      pub both_listed_lem : (n : ℕ) → n ≡ x.used + y.used
          → block_of y.run n (take x.used x.out ++ (y.out ++ drop (length x.out - x.used) (drop x.used x.out))) ≡ both_listed v a b out
      both_listed_lem n sum =
          let text = lines_text v (entries_in a) in
          let place : 0 + length text ≡ length text = omega arith in
          (λ i. block_of y.run (sum i) (laid_behind i))
          ∙ (λ i. block_of (told_second i).run ((told_first i).used + (told_second i).used) (sets x.out x.used more))
          ∙ (λ i. block_of (replayed (replayed v a) b) (sym (length-append text more) i) (sets (told_first i).out (told_first i).used more))
          ∙ ap (block_of (replayed (replayed v a) b) (length (text ++ more)))
          (ap (λ k. sets (sets out 0 text) k more) (sym place) ∙ sym (sets_append text more out 0))

-- ---- what is held, as the code counts it
pub held_listed : (v : Running) (kept : List ℕ) (held r : ℕ) (out : List ℕ) (b : ListedBlock) → b ≡ block_listed v (take r kept) out → r ≡ min held most_held
    → b ≡ block_listed v (held_bytes kept held) out
held_listed v kept held r out b p e = p ∙ ap (λ k. block_listed v (take k kept) out) e

-- ---- a block, cut
module _ (kept : List ℕ) (held : ℕ) (block : List ℕ) (c : Cut) (e : c ≡ cut_of (held_bytes kept held) block) (n : ℕ) (counted : n ≡ first_count c) where
  abbrev bytes : List ℕ
  bytes = held_bytes kept held ++ block

  pub cut_room : record_count (length (take n c.first)) + record_count (length (own_run c block)) ≡ (length (held_bytes kept held) + length block) / record_size
  unfolding whole_in
  cut_room =
      let runs = cut_runs kept held block c e in
      let both : length (first_run c) + length (own_run c block) ≡ length (whole_in bytes) =
      sym (length-append (first_run c) (own_run c block)) ∙ ap length runs.all in
      let all : length (whole_in bytes) ≡ min (whole_bytes (length bytes)) (length bytes) = length-take (whole_bytes (length bytes)) bytes in
      let long : length bytes ≡ length (held_bytes kept held) + length block = length-append (held_bytes kept held) block in
      let whole = runs.whole in
      ap (λ k. record_count (length (take k c.first)) + record_count (length (own_run c block))) counted ∙ omega arith

  pub cut_listed_lem : (v : Running) (r : Run) (used : ℕ) (words cells out' out : List ℕ) (t : Tape)
      → block_of (running_of r words cells) used out' ≡ both_listed v (take n c.first) (own_run c block) out → t ≡ tape_holds r c.rest c.left
      → lines_out 0 used (taping_of t words cells) out' ≡ cut_listed v bytes out
  cut_listed_lem v r used words cells out' out t p h =
      let first = first_run c in
      let own = own_run c block in
      let runs = cut_runs kept held block c e in
      let both = p ∙ ap (λ k. both_listed v (take k c.first) own out) counted in
      let went = cut_went kept held block c e v (replayed v first) r words cells t refl (ap (λ (l : ListedBlock). l.run) both) h in
      (λ i. lines_out 0 (both i).used (went i) (both i).out)
      ∙ ap (λ text. lines_done (went_through v bytes) text out) (sym (lines_join v first own runs.whole) ∙ ap (λ l. lines_text v (entries_in l)) runs.all)
