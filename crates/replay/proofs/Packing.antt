-- A run in its two parts, and what a record leaves of them. Assumes nothing.
--     parts_again                  the two parts of a run that has not stopped make that run
--     went_says                    a record was run, and no limit of the state changed
--     parts_running, parts_ran     so with the buffers, and what one record comes to
--     went_leaves, went_goes       what a record left, and how it goes on
--     went_stopped_lem                 where the run stopped before it
--     run_running                  a run made of its parts, with the buffers
use Rattle.std.specs.Prelude.{Option, None, Some, is_some}
use Rattle.std.proofs.Common.{◌≡◌, ℕ, true, false, List, sym, refl, ap, ◌∙◌, true≢false}
use Rattle.rules.specs.declared.State.{State}
use Rattle.request.specs.Requests.{Decoded}
use Rattle.replay.specs.declared.run.Run.{Run}
use Rattle.replay.specs.declared.run.Ran.{Ran}
use Rattle.replay.specs.declared.flat.Fixed.{Fixed}
use Rattle.replay.specs.declared.flat.Moving.{Moving}
use Rattle.replay.specs.declared.flat.Went.{Went}
use Rattle.replay.specs.Running.{Running, ShownRan, running_of, run_with, next_number, run_moved, ran_by, shown_ran, ran_on, ran}
use Rattle.replay.specs.Packing.{fixed_in, moving_in, state_again, run_stops, run_again, running_again, ran_again, went_shown, went_on_with, PartsAgain}
use Rattle.replay.proofs.Records.{ran_on_lem}

not_stopped : (g : Option ℕ) → is_some g ≡ false → None ≡ g
not_stopped None e = refl
not_stopped (Some n) e = absurd (true≢false e)

pub parts_again : PartsAgain
unfolding fixed_in moving_in state_again run_again
parts_again r e = λ i. run_with
    (record {
      depth = r.state.depth;
      height = r.state.height;
      words = r.state.words;
      cells = r.state.cells;
      count = r.state.count;
      len = r.state.len;
      current = r.state.current;
      regs = r.state.regs;
    })
    r.number r.fuel r.spent (not_stopped r.stop e i)

-- what no record changes of a state
abbrev pub SameLimits : State → State → Type 0
SameLimits s t = (s.depth ≡ t.depth) × (s.height ≡ t.height) × (s.words ≡ t.words) × (s.cells ≡ t.cells)

pub went_says : (f : Fixed) (m : Moving) (s : State) → SameLimits s (state_again f m) → (spent answer offset : ℕ)
    → ran_again f (went_on_with m s spent answer offset) ≡ ran_by (run_moved (run_again f m) s spent) answer offset
unfolding state_again run_again ran_again went_on_with
went_says f m s k spent answer offset = λ i. ran_by
    (run_with
    (record {
      depth = sym k.0 i;
      height = sym k.1 i;
      words = sym k.2 i;
      cells = sym k.3 i;
      count = s.count;
      len = s.len;
      current = s.current;
      regs = s.regs;
    })
    (next_number m.number) f.fuel spent None)
    answer offset

-- ---- the parts of a run that has not stopped
module _ (r : Run) (e : is_some r.stop ≡ false) (f : Fixed) (p : f ≡ fixed_in r) (m : Moving) (q : m ≡ moving_in r) (words cells : List ℕ) where
  pub parts_running : running_again f m words cells ≡ running_of r words cells
  unfolding running_again
  parts_running = ap (λ (r : Run). running_of r words cells) ((λ i. run_again (p i) (q i)) ∙ parts_again r e)

  -- a record that they were run by
  pub parts_ran : (d : Decoded) (w : Went) (ws cs : List ℕ) → went_shown f w ws cs ≡ ran_on (running_again f m words cells) d → (x : Ran) → x ≡ ran_again f w
      → shown_ran x ws cs ≡ ran (running_of r words cells) d
  unfolding went_shown
  parts_ran d w ws cs t x s =
      ap (λ (x : Ran). shown_ran x ws cs) s ∙ t ∙ ap (λ (v : Running). ran_on v d) parts_running ∙ ran_on_lem (running_of r words cells) d e

-- ---- what a record left, to go on with
module _ (f : Fixed) (m : Moving) (words cells : List ℕ) (d : Decoded) (w : Went) (ws cs : List ℕ)
    (t : went_shown f w ws cs ≡ ran_on (running_again f m words cells) d)
  where
    left_by : (went_shown f w ws cs).run ≡ (ran (running_again f m words cells) d).run
    unfolding running_again run_again
    left_by = ap (λ (t : ShownRan). t.run) (t ∙ ran_on_lem (running_again f m words cells) d refl)

    pub went_leaves : (x : Ran) → x ≡ ran_again f w → running_of x.run ws cs ≡ (ran (running_again f m words cells) d).run
    unfolding went_shown
    went_leaves x s = ap (λ (x : Ran). running_of x.run ws cs) s ∙ left_by

    pub went_goes : is_some w.stop ≡ false → running_again f w.moving ws cs ≡ (ran (running_again f m words cells) d).run
    unfolding went_shown ran_again running_again run_again
    went_goes e = ap (λ (g : Option ℕ). running_of (run_stops f w.moving g) ws cs) (not_stopped w.stop e) ∙ left_by

pub went_stopped_lem : (f : Fixed) (w : Went) → is_some w.stop ≡ true → (x : Ran) → x ≡ ran_again f w → is_some x.run.stop ≡ true
unfolding ran_again
went_stopped_lem f w e x s = ap (λ (x : Ran). is_some x.run.stop) s ∙ e

-- ---- a run made of its parts
pub run_running : (f : Fixed) (m : Moving) (words cells : List ℕ) (r : Run) → r ≡ run_again f m → running_of r words cells ≡ running_again f m words cells
unfolding running_again
run_running f m words cells r e = ap (λ (r : Run). running_of r words cells) e
