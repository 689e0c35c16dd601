-- A run as the loop carries it: what no record changes, what a record may change, and what a record leaves. Nothing here has to be believed: it is cited by
-- private functions alone.
--     fixed_in r, moving_in r              the two parts of a run that has not stopped
--     state_again f m, run_again f m        the state and the run that two parts make
--     running_again f m                   that run, with what both lent buffers hold
--     ran_again f w, went_shown f w        the run after a record, with what is answered; and with what both lent buffers hold
--     went_on_with, went_stopped            a record was run; the run stopped before it
--     went_refused f m number             a record that is refused, at a cost of 1
-- One statement, PartsAgain: the two parts of a run that has not stopped make that run.
-- All are names that laws unfold, so that a proof of a function carries the name and not the numbers behind it.
use Rattle.std.specs.Prelude.{◌≡◌, ℕ, ◌+◌, ◌-◌, false, List, nat_lt, Option, None, Some, is_some}
use Rattle.choice.specs.Choose.{choose}
use Rattle.rules.specs.declared.State.{State}
use Rattle.replay.specs.declared.run.Run.{Run}
use Rattle.replay.specs.declared.run.Ran.{Ran}
use Rattle.replay.specs.declared.flat.Fixed.{Fixed}
use Rattle.replay.specs.declared.flat.Moving.{Moving}
use Rattle.replay.specs.declared.flat.Went.{Went}
use Rattle.replay.specs.Running.{Running, ShownRan, running_of, run_with, next_number, ran_by, shown_ran}

unfoldable pub fixed_in : Run → Fixed
fixed_in r = record { depth = r.state.depth; height = r.state.height; words = r.state.words; cells = r.state.cells; fuel = r.fuel }

abbrev pub moving_with : State → (number spent : ℕ) → Moving
moving_with s number spent = record {
  count = s.count;
  len = s.len;
  current = s.current;
  ireg = s.regs.ireg;
  freg32 = s.regs.freg32;
  freg64 = s.regs.freg64;
  number = number;
  spent = spent;
}

unfoldable pub moving_in : Run → Moving
moving_in r = moving_with r.state r.number r.spent

unfoldable pub state_again : Fixed → Moving → State
state_again f m = record {
  depth = f.depth;
  height = f.height;
  words = f.words;
  cells = f.cells;
  count = m.count;
  len = m.len;
  current = m.current;
  regs = record { ireg = m.ireg; freg32 = m.freg32; freg64 = m.freg64 };
}

abbrev pub run_stops : Fixed → Moving → (stop : Option ℕ) → Run
run_stops f m stop = run_with (state_again f m) m.number f.fuel m.spent stop

unfoldable pub run_again : Fixed → Moving → Run
run_again f m = run_stops f m None

unfoldable pub ran_again : Fixed → Went → Ran
ran_again f w = ran_by (run_stops f w.moving w.stop) w.answer w.offset

unfoldable pub running_again : Fixed → Moving → (words cells : List ℕ) → Running
running_again f m words cells = running_of (run_again f m) words cells

unfoldable pub went_shown : Fixed → Went → (words cells : List ℕ) → ShownRan
went_shown f w words cells = shown_ran (ran_again f w) words cells

unfoldable pub went_on_with : Moving → State → (spent answer offset : ℕ) → Went
went_on_with m s spent answer offset = record {
  moving = moving_with s (next_number m.number) spent;
  stop = None;
  answer = answer;
  offset = offset;
}

unfoldable pub went_stopped : Moving → (cost : ℕ) → Went
went_stopped m cost = record { moving = m; stop = Some cost; answer = 0; offset = 0 }

unfoldable pub went_refused : Fixed → Moving → (number : ℕ) → Went
went_refused f m number = choose (nat_lt (f.fuel - m.spent) 1) (went_stopped m 1) (went_on_with m (state_again f m) (m.spent + 1) number 0)

abbrev pub PartsAgain : Type 0
PartsAgain = (r : Run) → is_some r.stop ≡ false → run_again (fixed_in r) (moving_in r) ≡ r
