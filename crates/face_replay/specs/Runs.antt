-- A replay in its course as numbers.
--     run_from c                        the run that the numbers say
--     run_back c r                      the numbers of a run handed back for those that came: what has not changed comes back as it came
--     RunTold, run_told r ws cs         a run with what both buffers hold: what a function promises
--     running_back c v                  that of a replay in its course
--     running_from c ws cs              the replay in its course that the numbers say
--     was_accepted x, any_accepted v ds  the record was run and answered with 0 or 1; so one of some records
-- Statements: RunSaid, what is handed back says the run; RunBack, a run that has not changed comes back number for number; StoppedAsItCame, so one that had
-- stopped, with both buffers; StateAsItCame, so the state, with both buffers, where no record was accepted.
use Rattle.std.specs.Prelude.{◌≡◌, Bool, true, false, not, ◌&&◌, ◌||◌, List, [], ◌∷◌, ℕ, ltb, is_some}
use Rattle.std.specs.Bool.{then_some}
use Rattle.regs.specs.Convert.{truth_of}
use Rattle.request.specs.Requests.{Decoded}
use Rattle.request.specs.Entries.{entries_in}
use Rattle.replay.specs.declared.run.Run.{Run}
use Rattle.replay.specs.Running.{Running, run_with, run_of, running_of, ShownRan, ran, replayed}
use Rattle.face.specs.States.{state_from}
use Rattle.face_replay.specs.declared.flagged.Flagged.{Flagged}
use Rattle.face_replay.specs.declared.traces.CRun.{CRun}
use Rattle.face_replay.specs.Flags.{flagged_by, flagged_back, state_back}

abbrev pub run_from : CRun → Run
run_from c = run_with (state_from c.state) c.number c.fuel c.spent (then_some (truth_of c.stopflag) c.cost)

abbrev pub stop_in : CRun → Flagged
stop_in c = flagged_by c.stopflag c.cost

abbrev pub run_back : CRun → Run → CRun
run_back c r = record {
  state = state_back c.state r.state;
  number = r.number;
  fuel = r.fuel;
  spent = r.spent;
  stopflag = (flagged_back (stop_in c) r.stop).flag;
  cost = (flagged_back (stop_in c) r.stop).number;
}

pub record RunTold : Type 0 where
  pub run : CRun
  pub words : List ℕ
  pub cells : List ℕ

abbrev pub run_told : CRun → (words cells : List ℕ) → RunTold
run_told r words cells = record { run = r; words = words; cells = cells }

abbrev pub running_back : CRun → Running → RunTold
running_back c v = run_told (run_back c (run_of v)) v.world.words v.world.cells

abbrev pub running_from : CRun → (words cells : List ℕ) → Running
running_from c words cells = running_of (run_from c) words cells

abbrev pub RunSaid : Type 0
RunSaid = (c : CRun) (r : Run) → run_from (run_back c r) ≡ r

abbrev pub RunBack : Type 0
RunBack = (c : CRun) → run_back c (run_from c) ≡ c

abbrev pub StoppedAsItCame : Type 0
StoppedAsItCame =
    (c : CRun) (words cells bytes : List ℕ) → truth_of c.stopflag ≡ true
    → running_back c (replayed (running_from c words cells) bytes) ≡ run_told c words cells

-- ---- where no record was accepted

abbrev pub was_accepted : ShownRan → Bool
was_accepted x = not (is_some x.run.stop) && ltb x.answer 2

unfoldable pub any_accepted : Running → List Decoded → Bool
any_accepted v [] = false
any_accepted v (d ∷ ds) = was_accepted (ran v d) || any_accepted (ran v d).run ds

abbrev pub StateAsItCame : Type 0
StateAsItCame =
    (c : CRun) (words cells bytes : List ℕ) → any_accepted (running_from c words cells) (entries_in bytes) ≡ false
    → ((running_back c (replayed (running_from c words cells) bytes)).run.state ≡ c.state)
    × (((running_back c (replayed (running_from c words cells) bytes)).words ≡ words)
    × ((running_back c (replayed (running_from c words cells) bytes)).cells ≡ cells))
