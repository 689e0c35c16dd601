-- Document 01's listing of a trace: a line for each record that is run; then, if stopped, `stopped`; then `spent`. As a list of lines, and as text.
--     line_of number t              the line of a record, by its number and what it came to
--     lines_by v d, lines_of v ds    the lines of one record, none where the run has stopped, and of records one after another
--     Said, said_text               any line of a listing, and its text
--     said_at_end v                  the lines behind those of the records
--     listing_of v ds               the whole listing, of a run and the records to come
--     text_of ss                    lines as text
--     opened_run, listing_text       a run on a stack just opened, and the text of the listing of a trace, for an opening and a fuel
use Rattle.std.specs.Prelude.{List, [], ◌∷◌, ◌++◌, ℕ, length, Option, None, Some, is_some}
use Rattle.choice.specs.Choose.{choose}
use Rattle.lines.specs.declared.Line.{Line}
use Rattle.lines.specs.Text.{line_text, stopped_text, spent_text}
use Rattle.rules.specs.Open.{stack_opened}
use Rattle.request.specs.Requests.{Decoded}
use Rattle.request.specs.Entries.{entries_in}
use Rattle.replay.specs.Running.{Running, ShownRan, started_run, running_of, ran, ran_all}

-- ---- the lines of records

abbrev pub line_of : (number : ℕ) → ShownRan → Line
line_of number t = record {
  number = number;
  answer = t.answer;
  offset = t.offset;
  depth = t.run.world.state.count;
  len = t.run.world.state.len;
}

unfoldable pub lines_by : Running → Decoded → List Line
lines_by v d = choose (is_some (ran v d).run.stop) [] (line_of v.number (ran v d) ∷ [])

unfoldable pub lines_of : Running → List Decoded → List Line
lines_of v [] = []
lines_of v (d ∷ ds) = lines_by v d ++ lines_of (ran v d).run ds

-- ---- the listing

pub data Said : Type 0 where
  of_record : Line → Said
  of_stop : (number cost : ℕ) → Said
  of_spent : (spent : ℕ) → Said

abbrev pub said_of : List Line → List Said
said_of [] = []
said_of (l ∷ ls) = of_record l ∷ said_of ls

abbrev pub said_of_stop : (number : ℕ) → Option ℕ → List Said
said_of_stop number None = []
said_of_stop number (Some cost) = of_stop number cost ∷ []

abbrev pub said_at_stop : (number : ℕ) → Option ℕ → (spent : ℕ) → List Said
said_at_stop number stop spent = said_of_stop number stop ++ of_spent spent ∷ []

abbrev pub said_at_end : Running → List Said
said_at_end v = said_at_stop v.number v.stop v.spent

unfoldable pub listing_of : Running → List Decoded → List Said
listing_of v ds = said_of (lines_of v ds) ++ said_at_end (ran_all v ds)

-- ---- as text

abbrev pub said_text : Said → List ℕ
said_text (of_record l) = line_text l
said_text (of_stop number cost) = stopped_text number cost
said_text (of_spent spent) = spent_text spent

unfoldable pub text_of : List Said → List ℕ
text_of [] = []
text_of (s ∷ ss) = said_text s ++ text_of ss

-- M in bytes, D in frames, the two lent buffers and the fuel
abbrev pub opened_run : (bytes D : ℕ) (words cells : List ℕ) (fuel : ℕ) → Running
opened_run bytes D words cells fuel = running_of (started_run (stack_opened bytes D (length words) (length cells)).state fuel) words cells

unfoldable pub listing_text : (bytes D : ℕ) (words cells : List ℕ) (fuel : ℕ) → (trace : List ℕ) → List ℕ
listing_text bytes D words cells fuel trace = text_of (listing_of (opened_run bytes D words cells fuel) (entries_in trace))
