-- The loop that fills a block of text: what is left to list, from the place reached, comes to what there was to list. Assumes nothing.
--     block_left              what is left of a block: the run when it is through, and the text behind what is written
--     record_left_lem, record_used    a record takes its line off what is left, and uses no more than the longest line
--     stop_left, end_left    after a stop, and at the end, nothing is left
--     block_whole            at the start all is
use Rattle.std.specs.Prelude.{is_some}
use mathlib.Core.Path.{◌≡◌, refl, sym, ap, ◌∙◌}
use mathlib.Core.Bool.{Bool, true, false}
use mathlib.Core.List.{List, [], ◌∷◌, ◌++◌, append-nil}
use Prim.Native.Nat.{ℕ, ◌+◌, ◌≤◌, ◌<◌}
use native.Mathlib.Omega.{arith}
use native.Mathlib.Decide.{dec_le}
use lib.ListN.{length, length-append}
use lib.Seq.{sets, length-sets}
use Rattle.choice.specs.Choose.{choose}
use Rattle.choice.proofs.Choices.{chosen_first, chosen_second}
use Rattle.runs.proofs.Lists.{sets_append}
use Rattle.lines.specs.Text.{line_text, shown_text, longest_text, text_put}
use Rattle.lines.proofs.Texts.{line_fits, text_put_room}
use Rattle.request.specs.Requests.{Decoded}
use Rattle.record.specs.Form.{record_size}
use Rattle.request.specs.Walk.{next_place}
use Rattle.request.specs.Entries.{entry_at, entries_left, entries_in}
use Rattle.request.proofs.Entries.{entries_go, entries_end}
use Rattle.replay.specs.Running.{Running, ran, ran_all, replayed}
use Rattle.replay.specs.Turns.{ShownTurn}
use Rattle.replay.proofs.Spent.{stop_stays}
use Rattle.replay.proofs.Turns.{turn_inside}
use Rattle.listing.specs.Listing.{line_of, lines_by, lines_of, said_of, text_of}
use Rattle.listing.specs.Blocks.{lines_text, ListedBlock, block_of, block_with, listed_at, record_listed}
use Rattle.listing.proofs.Lines.{lines_stopped, text_lines}

unfoldable pub block_left : Running → List Decoded → (used : ℕ) (out : List ℕ) → ListedBlock
block_left v ds used out = block_of (ran_all v ds) (used + length (lines_text v ds)) (sets out used (lines_text v ds))

-- ---- a record
-- a text in front of the rest
text_left_behind : (v : Running) (ds : List Decoded) (text : List ℕ) (used : ℕ) (out : List ℕ)
    → block_of (ran_all v ds) (used + length (text ++ lines_text v ds)) (sets out used (text ++ lines_text v ds))
    ≡ block_left v ds (used + length text) (sets out used text)
unfolding block_left
text_left_behind v ds text used out =
    let more = length-append text (lines_text v ds) in
    let place : used + length (text ++ lines_text v ds) ≡ used + length text + length (lines_text v ds) = omega arith in
    λ i. block_of (ran_all v ds) (place i) (sets_append text (lines_text v ds) out used i)

-- the text of a record's lines, and of the rest
pub text_first : (v : Running) (d : Decoded) (ds : List Decoded) → lines_text v (d ∷ ds) ≡ text_of (said_of (lines_by v d)) ++ lines_text (ran v d).run ds
unfolding lines_text lines_of
text_first v d ds = text_lines (lines_by v d) (lines_of (ran v d).run ds)

record_left : (v : Running) (d : Decoded) (ds : List Decoded) (used : ℕ) (out : List ℕ)
    → block_left v (d ∷ ds) used out
    ≡ block_left (ran v d).run ds (used + length (text_of (said_of (lines_by v d)))) (sets out used (text_of (said_of (lines_by v d))))
unfolding block_left ran_all
record_left v d ds used out =
    ap (λ text. block_of (ran_all (ran v d).run ds) (used + length text) (sets out used text)) (text_first v d ds)
    ∙ text_left_behind (ran v d).run ds (text_of (said_of (lines_by v d))) used out

-- what a record's lines are as text: none where the run has stopped, else its line
module _ (v : Running) (d : Decoded) where
  no_text : is_some (ran v d).run.stop ≡ true → text_of (said_of (lines_by v d)) ≡ []
  unfolding lines_by text_of
  no_text e = ap (λ ls. text_of (said_of ls)) (sym (chosen_first _ _ _ _ _ e refl))

  one_text : is_some (ran v d).run.stop ≡ false → text_of (said_of (lines_by v d)) ≡ line_text (line_of v.number (ran v d))
  unfolding lines_by text_of
  one_text e = ap (λ ls. text_of (said_of ls)) (sym (chosen_second _ _ _ _ _ e refl)) ∙ append-nil (line_text (line_of v.number (ran v d)))

  pub text_short : length (text_of (said_of (lines_by v d))) ≤ longest_text
  text_short = by (is_some (ran v d).run.stop) refl
    where
      by : (b : Bool) → is_some (ran v d).run.stop ≡ b → length (text_of (said_of (lines_by v d))) ≤ longest_text
      by true e = rw (no_text e) (omega arith)
      by false e = rw (one_text e) (line_fits (line_of v.number (ran v d)))

-- so what is put is that text
module _ (v : Running) (d : Decoded) (used : ℕ) (out : List ℕ) (room : used + longest_text ≤ length out) where
  text_put_lem : choose (is_some (ran v d).run.stop) (shown_text used out) (text_put out used (line_text (line_of v.number (ran v d))))
      ≡ shown_text (used + length (text_of (said_of (lines_by v d)))) (sets out used (text_of (said_of (lines_by v d))))
  text_put_lem = by (is_some (ran v d).run.stop) refl
    where
      by : (b : Bool) → is_some (ran v d).run.stop ≡ b
          → choose (is_some (ran v d).run.stop) (shown_text used out) (text_put out used (line_text (line_of v.number (ran v d))))
          ≡ shown_text (used + length (text_of (said_of (lines_by v d)))) (sets out used (text_of (said_of (lines_by v d))))
      by true e =
          let same : used ≡ used + 0 = omega arith in
          sym (chosen_first _ _ _ _ _ e refl)
          ∙ (λ i. shown_text (same i) out)
          ∙ ap (λ text. shown_text (used + length text) (sets out used text)) (sym (no_text v d e))
      by false e =
          sym (chosen_second _ _ _ _ _ e refl)
          ∙ text_put_room out used (line_text (line_of v.number (ran v d))) room
          ∙ ap (λ text. shown_text (used + length text) (sets out used text)) (sym (one_text v d e))

-- behind a record at a place
left_next : (bytes : List ℕ) (at : ℕ) → entries_left bytes (next_place (length bytes) at) ≡ entries_left bytes (at + record_size)
left_next bytes at = by (dec_le (at + record_size) (length bytes))
  where
    by : Dec (at + record_size ≤ length bytes) → entries_left bytes (next_place (length bytes) at) ≡ entries_left bytes (at + record_size)
    by (yes p) = ap (entries_left bytes) (omega arith)
    by (no p) = entries_end bytes (next_place (length bytes) at) (omega arith) ∙ sym (entries_end bytes (at + record_size) (omega arith))

module _ (v : Running) (bytes : List ℕ) (at used : ℕ) (out : List ℕ) (inside : at < length bytes) (room : used + longest_text ≤ length out) where
  abbrev says : Decoded
  says = entry_at bytes at

  abbrev text : List ℕ
  text = text_of (said_of (lines_by v says))

  record_is : record_listed v bytes at out used ≡ block_of (ran v says).run (used + length text) (sets out used text)
  unfolding record_listed
  record_is =
      ap
      (λ (t : ShownTurn).
      listed_at t.turned.run
      (choose (is_some t.turned.run.stop) (shown_text used out) (text_put out used (line_text (line_of v.number t.turned)))))
      (sym (turn_inside v bytes at inside))
      ∙ ap (listed_at (ran v says).run) (text_put_lem v says used out room)

  module _ (b : ListedBlock) (e : b ≡ record_listed v bytes at out used) where
    pub record_left_lem : block_left b.run (entries_left bytes (at + record_size)) b.used b.out ≡ block_left v (entries_left bytes at) used out
    record_left_lem =
        ap (λ (b : ListedBlock). block_left b.run (entries_left bytes (at + record_size)) b.used b.out) (e ∙ record_is)
        ∙ ap (λ ds. block_left (ran v says).run ds (used + length text) (sets out used text)) (sym (left_next bytes at))
        ∙ sym (record_left v says (entries_left bytes (next_place (length bytes) at)) used out)
        ∙ ap (λ ds. block_left v ds used out) (sym (entries_go bytes at inside))

    pub record_used : (b.used ≤ used + longest_text) × (length b.out ≡ length out)
    record_used =
        let short = text_short v says in
        let placed : b.used ≡ used + length text = ap (λ (b : ListedBlock). b.used) (e ∙ record_is) in
        (omega arith, ap (λ (b : ListedBlock). length b.out) (e ∙ record_is) ∙ length-sets out used text)

-- ---- nothing is left
no_lines : (v : Running) (ds : List Decoded) (used : ℕ) (out : List ℕ) → ran_all v ds ≡ v → lines_of v ds ≡ [] → block_left v ds used out ≡ block_of v used out
unfolding block_left lines_text text_of
no_lines v ds used out same none =
    let none_used : used + 0 ≡ used = omega arith in
    (λ i. block_of (same i) (used + length (text_of (said_of (none i)))) (sets out used (text_of (said_of (none i))))) ∙ (λ i. block_of v (none_used i) out)

pub stop_left : (v : Running) (ds : List Decoded) (used : ℕ) (out : List ℕ) → is_some v.stop ≡ true → block_left v ds used out ≡ block_of v used out
stop_left v ds used out e = no_lines v ds used out (stop_stays v ds e) (lines_stopped v e ds)

pub end_left : (v : Running) (bytes : List ℕ) (at used : ℕ) (out : List ℕ) → length bytes ≤ at
    → block_left v (entries_left bytes at) used out ≡ block_of v used out
unfolding ran_all lines_of
end_left v bytes at used out h = ap (λ ds. block_left v ds used out) (entries_end bytes at h) ∙ no_lines v [] used out refl refl

pub block_whole : (v : Running) (bytes out : List ℕ) → block_left v (entries_in bytes) 0 out ≡ block_with (replayed v bytes) (lines_text v (entries_in bytes)) out
unfolding block_left replayed
block_whole v bytes out =
    let text = lines_text v (entries_in bytes) in
    let place : 0 + length text ≡ length text = omega arith in
    λ i. block_of (replayed v bytes) (place i) (sets out 0 text)
