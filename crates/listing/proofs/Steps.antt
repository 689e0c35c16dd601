-- One record with its line, and the lines at the end, by what the functions below promise. Assumes nothing.
--     record_stopped, record_listed_lem      a record, where the run has stopped and where it has not
--     block_none, block_all          a block, where there is no room for its lines and where there is
--     end_none, end_listed_lem           the end, likewise
use Rattle.std.specs.Prelude.{Option, None, Some, is_some}
use mathlib.Core.Path.{◌≡◌, refl, sym, ap, ◌∙◌}
use mathlib.Core.Bool.{true, false}
use mathlib.Core.List.{List, [], ◌++◌, append-nil}
use Prim.Native.Nat.{ℕ, ◌+◌, ◌≤◌, ◌<◌}
use native.Mathlib.Omega.{arith}
use lib.Dec.{ltb}
use lib.ListN.{length, length-append}
use lib.Seq.{sets, length-sets}
use borrow.Author.Tests.{lt-ltb, le-ltb}
use Rattle.choice.specs.Choose.{choose}
use Rattle.choice.proofs.Choices.{chosen_first, chosen_second}
use Rattle.runs.proofs.Lists.{sets_append}
use Rattle.lines.specs.Text.{line_text, stopped_text, spent_text, ShownText, shown_text, text_put}
use Rattle.lines.proofs.Texts.{stopped_fits, text_put_room}
use Rattle.request.specs.Entries.{record_count, entries_in}
use Rattle.replay.specs.declared.trace.Turn.{Turn}
use Rattle.replay.specs.Running.{Running, running_of, shown_ran, replayed}
use Rattle.replay.specs.Turns.{ShownTurn, shown_turn, turn_at}
use Rattle.listing.specs.Listing.{line_of, said_at_stop, text_of}
use Rattle.listing.specs.Blocks.{lines_text, block_room, block_of, block_with, block_listed, listed_at, record_listed, stop_listed, end_listed}

-- ---- a record
module _ (v : Running) (bytes : List ℕ) (at : ℕ) (out : List ℕ) (used : ℕ) (x : Turn) (words cells : List ℕ)
    (e : shown_turn x words cells ≡ turn_at v bytes at)
  where
    record_told : listed_at (running_of x.ran.run words cells)
        (choose (is_some x.ran.run.stop) (shown_text used out) (text_put out used (line_text (line_of v.number (shown_ran x.ran words cells)))))
        ≡ record_listed v bytes at out used
    unfolding record_listed
    record_told =
        ap
        (λ (t : ShownTurn).
        listed_at t.turned.run
        (choose (is_some t.turned.run.stop) (shown_text used out) (text_put out used (line_text (line_of v.number t.turned)))))
        e

    pub record_stopped : is_some x.ran.run.stop ≡ true → block_of (running_of x.ran.run words cells) used out ≡ record_listed v bytes at out used
    record_stopped s = ap (listed_at (running_of x.ran.run words cells)) (chosen_first _ _ _ _ _ s refl) ∙ record_told

    pub record_listed_lem : is_some x.ran.run.stop ≡ false → (text : ShownText)
        → text ≡ text_put out used (line_text (line_of v.number (shown_ran x.ran words cells)))
        → listed_at (running_of x.ran.run words cells) text ≡ record_listed v bytes at out used
    record_listed_lem s text p = ap (listed_at (running_of x.ran.run words cells)) (chosen_second _ _ _ _ _ s p) ∙ record_told

-- ---- a block
module _ (v : Running) (bytes out : List ℕ) where
  pub block_none : ltb (length out) (block_room (record_count (length bytes))) ≡ true → block_of v 0 out ≡ block_listed v bytes out
  unfolding block_listed
  block_none e = chosen_first _ _ _ _ _ e refl

  pub block_all : ltb (length out) (block_room (record_count (length bytes))) ≡ false
      → block_with (replayed v bytes) (lines_text v (entries_in bytes)) out ≡ block_listed v bytes out
  unfolding block_listed
  block_all e = chosen_second _ _ _ _ _ e refl

-- ---- the end
module _ (out : List ℕ) (room : block_room 2 ≤ length out) where
  end_laid : (text : List ℕ) → shown_text (length text) (sets out 0 text) ≡ end_listed text out
  unfolding end_listed
  end_laid text = chosen_second _ _ _ _ _ (le-ltb (length out) (block_room 2) room) refl

  put_first : (text : List ℕ) → text_put out 0 text ≡ shown_text (length text) (sets out 0 text)
  put_first text =
      let place : 0 + length text ≡ length text = omega arith in
      text_put_room out 0 text (omega arith) ∙ (λ i. shown_text (place i) (sets out 0 text))

  pub end_listed_lem : (number : ℕ) (stop : Option ℕ) (spent : ℕ) (m : List ℕ) (k : ℕ) (s : ShownText) → shown_text k m ≡ stop_listed number stop out
      → s ≡ text_put m k (spent_text spent) → s ≡ end_listed (text_of (said_at_stop number stop spent)) out
  unfolding text_of
  end_listed_lem number None spent m k s first second =
      second
      ∙ ap (λ (t : ShownText). text_put t.bytes t.next (spent_text spent)) first
      ∙ put_first (spent_text spent)
      ∙ ap (λ text. shown_text (length text) (sets out 0 text)) (sym (append-nil (spent_text spent)))
      ∙ end_laid (spent_text spent ++ [])
  end_listed_lem number (Some cost) spent m k s first second =
      let stopped = stopped_text number cost in
      let short = stopped_fits number cost in
      let same = length-sets out 0 stopped in
      let all = length-append stopped (spent_text spent) in
      let zero_more : length stopped ≡ 0 + length stopped = omega arith in
      let place : length stopped + length (spent_text spent) ≡ length (stopped ++ spent_text spent) = omega arith in
      second
      ∙ ap (λ (t : ShownText). text_put t.bytes t.next (spent_text spent)) (first ∙ put_first stopped)
      ∙ text_put_room (sets out 0 stopped) (length stopped) (spent_text spent) (omega arith)
      ∙ (λ i. shown_text (place i) (sets (sets out 0 stopped) (zero_more i) (spent_text spent)))
      ∙ ap (shown_text (length (stopped ++ spent_text spent))) (sym (sets_append stopped (spent_text spent) out 0))
      ∙ ap (λ text. shown_text (length (stopped ++ text)) (sets out 0 (stopped ++ text))) (sym (append-nil (spent_text spent)))
      ∙ end_laid (stopped ++ (spent_text spent ++ []))

pub end_none : (text out : List ℕ) → length out < block_room 2 → shown_text 0 out ≡ end_listed text out
unfolding end_listed
end_none text out h = chosen_first _ _ _ _ _ (lt-ltb (length out) (block_room 2) h) refl
