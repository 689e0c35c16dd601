-- What is handed out of an answer in place, and what it leaves.
--     number_told, offset_told, frame_told, hosted_told, returned_told     of what is shown, the numbers that a request hands out
--     world_held st regs ws cs     the world that the words of a state say, with these registers and what both buffers hold
--     answered_in st ws cs a       document 01's answer there. The registers lie behind the words, and no request looks at them: zeros stand in their place,
--                                 and Said says that it is the same with any
--     same_after, moved_after, len_after, stored_after, emptied_after      the words of the state after an answer: on a refusal as they came
--     Placed, placed r st ws cs   what is handed out, with what the state and both buffers hold: what a function promises
--     placed_after tell left st t  that of document 01's answer
use Rattle.std.specs.Prelude.{List, ℕ}
use Rattle.regs.specs.declared.registers.Registers.{Registers}
use Rattle.regs.specs.Registers.{zero_registers}
use Rattle.rules.specs.declared.Asked.{Asked}
use Rattle.rules.specs.World.{World, world_of}
use Rattle.rules.specs.Answers.{Shown, After}
use Rattle.rules.specs.Rules.{answered}
use Rattle.face_place.specs.declared.answers.COffset.{COffset}
use Rattle.face_place.specs.declared.answers.CFrame.{CFrame}
use Rattle.face_place.specs.declared.answers.CHosted.{CHosted}
use Rattle.face_place.specs.declared.answers.CReturned.{CReturned}
use Rattle.face_place.specs.Held.{state_held, moved_put, len_put, registers_laid, emptied_put, unless_refused}

-- ---- what is handed out

abbrev pub number_told : Shown → ℕ
number_told t = t.number

abbrev pub offset_told : Shown → COffset
offset_told t = record { number = t.number; offset = t.values.offset }

abbrev pub frame_told : Shown → CFrame
frame_told t = record { number = t.number; offset = t.values.offset; ip = t.values.ip; instance = t.values.instance }

abbrev pub hosted_told : Shown → CHosted
hosted_told t = record { number = t.number; offset = t.values.offset; host = t.values.host }

abbrev pub returned_told : Shown → CReturned
returned_told t = record {
  number = t.number;
  offset = t.values.offset;
  ip = t.values.ip;
  instance = t.values.instance;
  host = t.values.host;
}

-- ---- what is left

abbrev pub world_held : List ℕ → Registers → (words cells : List ℕ) → World
world_held st regs words cells = world_of (state_held st regs) words cells

abbrev pub answered_in : List ℕ → (words cells : List ℕ) → Asked → After
answered_in st words cells a = answered (world_held st zero_registers words cells) a

abbrev pub same_after : List ℕ → After → List ℕ
same_after st t = st

abbrev pub moved_after : List ℕ → After → List ℕ
moved_after st t = unless_refused t.shown.number st (moved_put st t.world.state)

abbrev pub len_after : List ℕ → After → List ℕ
len_after st t = unless_refused t.shown.number st (len_put st t.world.state)

abbrev pub stored_after : (ws : List ℕ) → List ℕ → After → List ℕ
stored_after ws st t = unless_refused t.shown.number st (registers_laid st ws)

abbrev pub emptied_after : List ℕ → After → List ℕ
emptied_after st t = unless_refused t.shown.number st (emptied_put st)

-- ---- both

pub record Placed (A : Type 0) : Type 0 where
  pub told : A
  pub state : List ℕ
  pub words : List ℕ
  pub cells : List ℕ

abbrev pub placed : {A : Type 0} → A → (st words cells : List ℕ) → Placed A
placed r st words cells = record { told = r; state = st; words = words; cells = cells }

abbrev pub placed_after : {A : Type 0} → (Shown → A) → (List ℕ → After → List ℕ) → List ℕ → After → Placed A
placed_after tell left st t = placed (tell t.shown) (left st t) t.world.words t.world.cells
