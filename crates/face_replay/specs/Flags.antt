-- A flag and the number beside it, and so a state, handed back for numbers that came: what has not changed comes back as it came.
--     says f g, flagged_back f g    whether a flag and the number beside it say g; g handed back for them: as they came where they say it
--     state_back c s                the numbers of a state handed back for those that came
-- Statements: StateSaid, what is handed back says the state; StateBack, one that has not changed comes back number for number.
use Rattle.std.specs.Prelude.{◌≡◌, Bool, not, ◌&&◌, ℕ, eqb, Option, None, Some, is_some, unwrap_or}
use Rattle.choice.specs.Choose.{choose}
use Rattle.regs.specs.Convert.{truth_bit, truth_of}
use Rattle.rules.specs.declared.State.{State}
use Rattle.face.specs.declared.state.CState.{CState}
use Rattle.face.specs.States.{state_from}
use Rattle.face_replay.specs.declared.flagged.Flagged.{Flagged}

abbrev pub flagged_by : (flag number : ℕ) → Flagged
flagged_by flag number = record { flag = flag; number = number }

abbrev pub is_said : (given : Bool) (number : ℕ) → Option ℕ → Bool
is_said given number None = not given
is_said given number (Some n) = given && eqb number n

abbrev pub says : Flagged → Option ℕ → Bool
says f g = is_said (truth_of f.flag) f.number g

unfoldable pub flagged_back : Flagged → Option ℕ → Flagged
flagged_back f g = choose (says f g) f (flagged_by (truth_bit (is_some g)) (unwrap_or g 0))

abbrev pub current_in : CState → Flagged
current_in c = flagged_by c.currentflag c.current

abbrev pub state_back : CState → State → CState
state_back c s = record {
  depth = s.depth;
  height = s.height;
  words = s.words;
  cells = s.cells;
  count = s.count;
  len = s.len;
  currentflag = (flagged_back (current_in c) s.current).flag;
  current = (flagged_back (current_in c) s.current).number;
  regs = s.regs;
}

abbrev pub StateSaid : Type 0
StateSaid = (c : CState) (s : State) → state_from (state_back c s) ≡ s

abbrev pub StateBack : Type 0
StateBack = (c : CState) → state_back c (state_from c) ≡ c
