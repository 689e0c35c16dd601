-- Demands 1 and 2, of openings, by `open` and by `cattlecleat_open`.
--     OpeningHeard b D ws cs o     a stack was opened with M of b bytes and D frames over the words ws and the cells cs, and o was answered
--     BeyondLimits b D n L         document 01's cause of 14: beyond the limits, or too few frame words
--     OpeningsAnswered             14 exactly then, and a state of zeros; else a fresh stack
use Rattle.std.specs.Prelude.{◌≡◌, true, ◌↔◌, ◌⊎◌, List, ℕ, ◌/◌, ◌<◌, length}
use Rattle.frames.specs.Rows.{too_few_words}
use Rattle.rules.specs.declared.Outcome.{Outcome}
use Rattle.rules.specs.Answers.{shown_of}
use Rattle.rules.specs.Broken.{max_depth, max_cells}
use Rattle.rules.specs.Open.{max_bytes, fresh_state, Opened, opened_as, open_refused, shown_opening}
use Rattle.stack.proofs.open.Reads as opens-stack
use Rattle.face.specs.States.{state_from}
use Rattle.face_ask.specs.declared.answers.CAnswer.{CAnswer}
use Rattle.face_ask.proofs.cattlecleat_open.Reads as c-open
use Rattle.demands.specs.Heard.{values_said}

abbrev pub opening_said : CAnswer → Opened
opening_said r = record { shown = shown_of r.number (values_said r); state = state_from r.state }

-- the buffers are only looked at: they hold what they held
pub data OpeningHeard : (bytes D : ℕ) (words cells : List ℕ) → Opened → Type 0 where
  by_open : (κ : _) (a : _) (r : Outcome) (e : _) → opens-stack.Post κ a r e
      → OpeningHeard a.0 a.1.0 a.1.1.0.now a.1.1.1.0.now (shown_opening r)
  by_cattlecleat_open : (κ : _) (a : _) (r : CAnswer) (e : _) → c-open.Post κ a r e
      → OpeningHeard a.0 a.1.0 a.1.1.0.now a.1.1.1.0.now (opening_said r)

abbrev pub BeyondLimits : (bytes D words cells : ℕ) → Type 0
BeyondLimits bytes D words cells = (max_bytes < bytes) ⊎ ((max_depth < D) ⊎ ((max_cells < cells) ⊎ (too_few_words words D ≡ true)))

abbrev pub OpeningsAnswered : Type 0
OpeningsAnswered =
    (bytes D : ℕ) (words cells : List ℕ) (o : Opened) → OpeningHeard bytes D words cells o
    → (o.shown.number ≡ 14 ↔ BeyondLimits bytes D (length words) (length cells))
    -- 14 or 0: zeros, or the fresh stack, with M in cells
    × ((o ≡ open_refused 14) ⊎ (o ≡ opened_as 0 (fresh_state D (bytes / 8) (length words) (length cells))))
