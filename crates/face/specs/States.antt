-- A state as numbers. A flag of 0 reads as none whatever the number beside it, any other as given.
--     state_from c      the state that the numbers say
--     state_to s        the numbers of a state: the flag is 0 or 1, and the number beside 0 is 0
--     registers_in c    its registers
-- One statement, StateKept: a state handed out and in again is that state.
use Rattle.std.specs.Prelude.{◌≡◌, is_some, unwrap_or}
use Rattle.std.specs.Bool.{then_some}
use Rattle.regs.specs.Convert.{truth_bit, truth_of}
use Rattle.regs.specs.declared.registers.Registers.{Registers}
use Rattle.rules.specs.declared.State.{State}
use Rattle.face.specs.declared.state.CState.{CState}

abbrev pub state_from : CState → State
state_from c = record {
  depth = c.depth;
  height = c.height;
  words = c.words;
  cells = c.cells;
  count = c.count;
  len = c.len;
  current = then_some (truth_of c.currentflag) c.current;
  regs = c.regs;
}

abbrev pub state_to : State → CState
state_to s = record {
  depth = s.depth;
  height = s.height;
  words = s.words;
  cells = s.cells;
  count = s.count;
  len = s.len;
  currentflag = truth_bit (is_some s.current);
  current = unwrap_or s.current 0;
  regs = s.regs;
}

abbrev pub registers_in : CState → Registers
registers_in c = (state_from c).regs

abbrev pub StateKept : Type 0
StateKept = (s : State) → state_from (state_to s) ≡ s
