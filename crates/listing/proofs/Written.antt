-- What the number of a block, or of an end, says of what was written. Assumes nothing.
--     FedVerdict, fed_verdict      22, 19 or 0, each with its cause and what is then there; EndVerdict, end_verdict the same of the end
--     behind_written               so do the lines behind those of the records
--     feed_texts, end_texts        done, the text stands at the start of the buffer, and the tape is the one without a listing
use Rattle.std.specs.Prelude.{Option, None, Some}
use mathlib.Core.Path.{◌≡◌, refl, sym, ap, ◌∙◌}
use mathlib.Core.Bool.{Bool, true, false, not, ◌&&◌, ◌||◌, true≢false, false≢true}
use mathlib.Core.List.{List, [], ◌++◌}
use mathlib.Core.Logic.{◌↔◌}
use Prim.Native.Nat.{ℕ, ◌+◌, ◌/◌, ◌≤◌, ◌<◌}
use native.Mathlib.Omega.{arith}
use lib.Dec.{ltb}
use lib.ListN.{length, take, length-append}
use lib.Seq.{length-take-le}
use borrow.Author.Tests.{ltb-true, ltb-false, le-ltb, not-true}
use Rattle.choice.specs.Choose.{choose}
use Rattle.choice.proofs.Choices.{chosen_where, chosen_second}
use Rattle.lines.specs.Text.{stopped_text, spent_text, ShownText}
use Rattle.lines.proofs.Texts.{stopped_fits, spent_fits}
use Rattle.runs.proofs.Lists.{sets_there}
use Rattle.record.specs.Form.{record_size}
use Rattle.request.specs.Entries.{record_count, entries_in}
use Rattle.tape.specs.Tapes.{Taping, held_in, whole_bytes, whole_in, has_stopped, is_empty, block_rests}
use Rattle.tape.specs.Tapes.{end_rests, fed, ShownFed, fed_with, feeding, end_told}
use Rattle.listing.specs.Listing.{said_at_stop, text_of}
use Rattle.listing.specs.Blocks.{lines_text, block_room, end_listed}
use Rattle.listing.specs.Taped.{lines_fed, lines_told, ShownLines, lines_refused, lines_done}
use Rattle.listing.specs.Taped.{block_lines_room, end_lines_room, list_feeding, list_telling}
use Rattle.listing.proofs.Feeding.{lines_room}

-- what a test of two parts says
both_true : (a b : Bool) → (a && b) ≡ true → (a ≡ true) × (b ≡ true)
both_true true b e = (refl, e)
both_true false b e = absurd (false≢true e)

one_failed : (a b : Bool) → (not a && b) ≡ false → a ≡ false → b ≡ false
one_failed true b e f = absurd (true≢false f)
one_failed false b e f = e

-- ---- a block
module _ (t : Taping) (block out : List ℕ) where
  pub data FedVerdict : ShownLines → ShownFed → Type 0 where
    refused_22 : (t.ended ≡ true) → FedVerdict (lines_refused t out 22) (fed_with t 22)
    lacks_room : block_rests t block ≡ false → length out < block_lines_room t block → FedVerdict (lines_refused t out 19) (fed_with (fed t block) 0)
    listed : (block_rests t block ≡ false → block_lines_room t block ≤ length out)
        → FedVerdict (lines_done (fed t block) (lines_fed t block) out) (fed_with (fed t block) 0)

  pub fed_verdict : FedVerdict (list_feeding t block out) (feeding t block)
  unfolding list_feeding feeding choose
  fed_verdict = by (not (has_stopped t.run) && (t.ended && not (is_empty block))) refl
      (not (block_rests t block) && ltb (length out) (block_lines_room t block)) refl
    where
      by : (x : Bool) → (not (has_stopped t.run) && (t.ended && not (is_empty block))) ≡ x
          → (y : Bool) → (not (block_rests t block) && ltb (length out) (block_lines_room t block)) ≡ y
          → FedVerdict (choose x (lines_refused t out 22) (choose y (lines_refused t out 19) (lines_done (fed t block) (lines_fed t block) out)))
          (choose x (fed_with t 22) (fed_with (fed t block) 0))
      by true e y f =
          refused_22 (both_true t.ended (not (is_empty block)) (both_true (not (has_stopped t.run)) (t.ended && not (is_empty block)) e).1).0
      by false e true f =
          let both = both_true (not (block_rests t block)) (ltb (length out) (block_lines_room t block)) f in
          lacks_room (not-true (block_rests t block) both.0) (ltb-true (length out) (block_lines_room t block) both.1)
      by false e false f =
          listed (λ g. ltb-false (length out) (block_lines_room t block) (one_failed (block_rests t block) (ltb (length out) (block_lines_room t block)) f g))

  -- the whole records of the held bytes and the block are so many
  whole_count : record_count (length (whole_in (held_in t ++ block))) ≡ (length (held_in t) + length block) / record_size
  unfolding whole_in
  whole_count =
      let all = held_in t ++ block in
      let long : length all ≡ length (held_in t) + length block = length-append (held_in t) block in
      let whole : length (take (whole_bytes (length all)) all) ≡ whole_bytes (length all) = length-take-le (whole_bytes (length all)) all (omega arith) in
      ap record_count whole ∙ omega arith

  text_fits : (block_rests t block ≡ false → block_lines_room t block ≤ length out) → length (lines_fed t block) ≤ length out
  unfolding lines_fed
  text_fits room =
      chosen_where (λ l. length l ≤ length out) (block_rests t block) [] (lines_text t.run (entries_in (whole_in (held_in t ++ block))))
      (λ e. omega arith)
      (λ e.
      let most = lines_room t.run (whole_in (held_in t ++ block)) in
      let counted = whole_count in
      let enough = room e in
      omega (arith, most, counted, enough))

  ended_rests : t.ended ≡ true → block_rests t block ≡ false → ⊥
  ended_rests e r = by (has_stopped t.run) t.ended (is_empty block) e r
    where
      by : (s f m : Bool) → f ≡ true → (s || (f || m)) ≡ false → ⊥
      by true f m p q = true≢false q
      by false true m p q = true≢false q
      by false false m p q = false≢true p

  pub feed_texts : {s : ShownLines} {g : ShownFed} → FedVerdict s g → s.number ≡ 0 → (s.tape ≡ fed t block) × (take s.used s.out ≡ lines_fed t block)
  feed_texts (refused_22 e) z = absurd (omega arith)
  feed_texts (lacks_room e h) z = absurd (omega arith)
  feed_texts (listed room) z = (refl, sets_there (lines_fed t block) out 0 (let fits = text_fits room in omega arith))

  -- done or refused with 22, it is what is answered without a listing
  pub feed_same : {s : ShownLines} {g : ShownFed} → FedVerdict s g → (s.number ≡ 19 → ⊥) → fed_with s.tape s.number ≡ g
  feed_same (refused_22 e) n = refl
  feed_same (lacks_room e h) n = absurd (n refl)
  feed_same (listed room) n = refl

  pub feed_unmoved : {s : ShownLines} {g : ShownFed} → FedVerdict s g → 2 ≤ s.number → (s.tape ≡ t) × (s.out ≡ out)
  feed_unmoved (refused_22 e) two = (refl, refl)
  feed_unmoved (lacks_room e h) two = (refl, refl)
  feed_unmoved (listed room) two = absurd (omega arith)

  pub feed_19 : {s : ShownLines} {g : ShownFed} → FedVerdict s g → s.number ≡ 19 ↔ ((block_rests t block ≡ false) × (length out < block_lines_room t block))
  feed_19 (refused_22 e) = (λ n. absurd (omega arith), λ h. absurd (ended_rests e h.0))
  feed_19 (lacks_room e h) = (λ n. (e, h), λ x. refl)
  feed_19 (listed room) = (λ n. absurd (omega arith), λ h. let enough = room h.0 in let short = h.1 in absurd (omega arith))

-- ---- the end
module _ (t : Taping) (out : List ℕ) where
  pub data EndVerdict : ShownLines → Type 0 where
    no_end_room : end_rests t ≡ false → length out < end_lines_room t → EndVerdict (lines_refused t out 19)
    lines_at_end : (end_rests t ≡ false → end_lines_room t ≤ length out) → EndVerdict (lines_done (end_told t) (lines_told t) out)

  pub end_verdict : EndVerdict (list_telling t out)
  unfolding list_telling choose
  end_verdict = by (not (end_rests t) && ltb (length out) (end_lines_room t)) refl
    where
      by : (y : Bool) → (not (end_rests t) && ltb (length out) (end_lines_room t)) ≡ y
          → EndVerdict (choose y (lines_refused t out 19) (lines_done (end_told t) (lines_told t) out))
      by true f =
          let both = both_true (not (end_rests t)) (ltb (length out) (end_lines_room t)) f in
          no_end_room (not-true (end_rests t) both.0) (ltb-true (length out) (end_lines_room t) both.1)
      by false f = lines_at_end (λ g. ltb-false (length out) (end_lines_room t) (one_failed (end_rests t) (ltb (length out) (end_lines_room t)) f g))

  end_fits : (end_rests t ≡ false → end_lines_room t ≤ length out) → length (lines_told t) ≤ length out
  unfolding lines_told
  end_fits room =
      chosen_where (λ l. length l ≤ length out) (end_rests t) [] (lines_text t.run (entries_in (held_in t)))
      (λ e. omega arith)
      (λ e. let most = lines_room t.run (held_in t) in let enough = room e in omega (arith, most, enough))

  pub end_texts : {s : ShownLines} → EndVerdict s → s.number ≡ 0 → (s.tape ≡ end_told t) × (take s.used s.out ≡ lines_told t)
  end_texts (no_end_room e h) z = absurd (omega arith)
  end_texts (lines_at_end room) z = (refl, sets_there (lines_told t) out 0 (let fits = end_fits room in omega arith))

  pub end_same : {s : ShownLines} → EndVerdict s → (s.number ≡ 19 → ⊥) → fed_with s.tape s.number ≡ fed_with (end_told t) 0
  end_same (no_end_room e h) n = absurd (n refl)
  end_same (lines_at_end room) n = refl

  pub end_unmoved : {s : ShownLines} → EndVerdict s → 2 ≤ s.number → (s.tape ≡ t) × (s.out ≡ out)
  end_unmoved (no_end_room e h) two = (refl, refl)
  end_unmoved (lines_at_end room) two = absurd (omega arith)

  pub end_19 : {s : ShownLines} → EndVerdict s → s.number ≡ 19 ↔ ((end_rests t ≡ false) × (length out < end_lines_room t))
  end_19 (no_end_room e h) = (λ n. (e, h), λ x. refl)
  end_19 (lines_at_end room) = (λ n. absurd (omega arith), λ h. let enough = room h.0 in let short = h.1 in absurd (omega arith))

-- ---- the lines behind those of the records
behind_short : (number : ℕ) (stop : Option ℕ) (spent : ℕ) → length (text_of (said_at_stop number stop spent)) ≤ block_room 2
unfolding text_of
behind_short number None spent =
    let all = length-append (spent_text spent) [] in
    let short = spent_fits spent in
    omega arith
behind_short number (Some cost) spent =
    let all = length-append (stopped_text number cost) (spent_text spent ++ []) in
    let rest = length-append (spent_text spent) [] in
    let first = stopped_fits number cost in
    let short = spent_fits spent in
    omega arith

pub behind_written : (number : ℕ) (stop : Option ℕ) (spent : ℕ) (out : List ℕ) (s : ShownText) → block_room 2 ≤ length out
    → s ≡ end_listed (text_of (said_at_stop number stop spent)) out → take s.next s.bytes ≡ text_of (said_at_stop number stop spent)
unfolding end_listed
behind_written number stop spent out s room e =
    let text = text_of (said_at_stop number stop spent) in
    let short = behind_short number stop spent in
    ap (λ (x : ShownText). take x.next x.bytes) (e ∙ sym (chosen_second _ _ _ _ _ (le-ltb (length out) (block_room 2) room) refl))
    ∙ sets_there text out 0 (omega arith)
