-- A trace that arrives in blocks (document 02, T-01). A tape is a replay in its course, the bytes of an unfinished record, and whether the end was told.
--     Taping, taping_of           that, of a tape and what both lent buffers hold
--     held_bytes kept held        the bytes of the unfinished record, at most 39, as forty bytes and a number keep them; `held_in t` those of a tape
--     kept_of held                the forty bytes that keep them: behind them are zeros
--     begun v                    a tape that begins, of a run in its course
--     whole_in, rest_in bytes      the whole records of some bytes, and what is left over
--     went_through v bytes        the whole records are replayed, and what is left over is held. A run that has stopped holds nothing
--     tape_begun, tape_holds       a tape by value: one that begins, and one after the whole records of a block
--     feed_tests t block          22: a nonempty block after an end without a stop
--     block_rests t block         nothing is run of a block: after a stop, after an end, and of an empty one
--     rests_told t block          whether that is so, of a tape by value; 22 where a block is refused
--     fed t block                the tape after a block
--     feeding t block            with it the number answered
--     end_rests t                 nothing is run by an end: after a stop, and after an end
--     end_told t                  the tape after the end was told: what is held is replayed, a short record
use Rattle.std.specs.Prelude.{Bool, true, false, not, ◌&&◌, ◌||◌, List, [], ◌∷◌, ◌++◌, ℕ, ◌-◌, ◌*◌, ◌/◌, min, eqb, length, take, drop, replicate, Result, ⊤, is_some, Ok, Err}
use Rattle.std.proofs.lemmas.List.Edits.{sets}
use Rattle.choice.specs.Choose.{choose}
use Rattle.choice.specs.Tests.{Test, ◌gives◌, settle}
use Rattle.record.specs.Form.{record_size}
use Rattle.replay.specs.Running.{Running, running_of, replayed}
use Rattle.replay.specs.declared.run.Run.{Run}
use Rattle.tape.specs.declared.tape.Tape.{Tape}
use Rattle.tape.specs.declared.tape.AfterEnd.{AfterEnd}

pub record Taping : Type 0 where
  pub run : Running
  pub kept : List ℕ
  pub held : ℕ
  pub ended : Bool

abbrev pub taping_of : Tape → (words cells : List ℕ) → Taping
taping_of t words cells = record { run = running_of t.run words cells; kept = t.kept; held = t.held; ended = t.ended }

-- ---- the unfinished record

abbrev pub most_held : ℕ
most_held = record_size - 1

abbrev pub held_bytes : (kept : List ℕ) (held : ℕ) → List ℕ
held_bytes kept held = take (min held most_held) kept

abbrev pub held_in : Taping → List ℕ
held_in t = held_bytes t.kept t.held

abbrev pub kept_of : List ℕ → List ℕ
kept_of held = sets (replicate record_size 0) 0 held

abbrev pub taping_with : Running → (held : List ℕ) → (ended : Bool) → Taping
taping_with v held ended = record { run = v; kept = kept_of held; held = length held; ended = ended }

abbrev pub begun : Running → Taping
begun v = taping_with v [] false

-- ---- a block

abbrev pub whole_bytes : ℕ → ℕ
whole_bytes n = n / record_size * record_size

unfoldable pub whole_in : List ℕ → List ℕ
whole_in bytes = take (whole_bytes (length bytes)) bytes

unfoldable pub rest_in : List ℕ → List ℕ
rest_in bytes = drop (whole_bytes (length bytes)) bytes

abbrev pub has_stopped : Running → Bool
has_stopped v = is_some v.stop

abbrev pub is_empty : List ℕ → Bool
is_empty block = eqb (length block) 0

abbrev pub held_after : Running → (rest : List ℕ) → Taping
held_after v rest = taping_with v (choose (has_stopped v) [] rest) false

unfoldable pub went_through : Running → List ℕ → Taping
went_through v bytes = held_after (replayed v (whole_in bytes)) (rest_in bytes)

-- a tape by value that begins, and one that holds what was left over
abbrev pub tape_begun : Run → Tape
tape_begun r = record { run = r; kept = kept_of []; held = 0; ended = false }

unfoldable pub tape_holds : Run → (rest : List ℕ) (left : ℕ) → Tape
tape_holds r rest left = choose (is_some r.stop) (tape_begun r) (record { run = r; kept = rest; held = left; ended = false })

unfoldable pub feed_tests : Taping → List ℕ → List Test
feed_tests t block = (not (has_stopped t.run) && (t.ended && not (is_empty block))) gives 22 ∷ []

-- nothing is run of it
abbrev pub block_rests : Taping → List ℕ → Bool
block_rests t block = has_stopped t.run || (t.ended || is_empty block)

-- whether it is so, as the code asks: where it is not, a block is refused after an end
unfoldable pub rests_told : Tape → List ℕ → Result Bool AfterEnd
rests_told t block = choose (is_some t.run.stop || is_empty block) (Ok true) (choose t.ended (Err record {}) (Ok false))

unfoldable pub fed : Taping → List ℕ → Taping
fed t block = choose (block_rests t block) t (went_through t.run (held_in t ++ block))

pub record ShownFed : Type 0 where
  pub number : ℕ
  pub tape : Taping

abbrev pub fed_with : Taping → (number : ℕ) → ShownFed
fed_with t number = record { number = number; tape = t }

abbrev pub fed_number : Result ⊤ AfterEnd → ℕ
fed_number (Ok done) = 0
fed_number (Err after_end) = 22

abbrev pub shown_feeding : Result ⊤ AfterEnd → Tape → (words cells : List ℕ) → ShownFed
shown_feeding r t words cells = fed_with (taping_of t words cells) (fed_number r)

unfoldable pub feeding : Taping → List ℕ → ShownFed
unfolding feed_tests
feeding t block = settle (feed_tests t block) (fed_with t) (fed_with (fed t block) 0)

-- ---- the end

abbrev pub end_rests : Taping → Bool
end_rests t = has_stopped t.run || t.ended

unfoldable pub end_told : Taping → Taping
end_told t = choose (end_rests t) t (taping_with (replayed t.run (held_in t)) [] true)
