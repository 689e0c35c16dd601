-- What is handed out of an answer: its number, every value that some request hands back, and the state after it, as numbers.
--     answer_with number values state    those
--     state_after c number s             the numbers of the state after it; on a refusal those that came, c
--     answer_told c t s, opening_told o   of what is shown, with the state; of an opening
--     ToldAnswer, told r ws cs          an answer, with what both buffers hold: what a function promises
--     after_told c a                     that of document 01's answer
use Rattle.std.specs.Prelude.{List, ℕ, leb}
use Rattle.choice.specs.Choose.{choose}
use Rattle.rules.specs.declared.State.{State}
use Rattle.rules.specs.declared.Values.{Values}
use Rattle.rules.specs.Answers.{Shown, After}
use Rattle.rules.specs.Open.{Opened}
use Rattle.face.specs.declared.state.CState.{CState}
use Rattle.face.specs.States.{state_to}
use Rattle.face_ask.specs.declared.answers.CAnswer.{CAnswer}

abbrev pub answer_with : (number : ℕ) → Values → CState → CAnswer
answer_with number values state = record {
  number = number;
  offset = values.offset;
  ip = values.ip;
  instance = values.instance;
  host = values.host;
  regs = values.regs;
  state = state;
}

abbrev pub state_after : CState → (number : ℕ) → State → CState
state_after c number s = choose (leb 2 number) c (state_to s)

abbrev pub answer_told : CState → Shown → State → CAnswer
answer_told c t s = answer_with t.number t.values (state_after c t.number s)

-- a refused opening hands back a state of zeros
abbrev pub opening_told : Opened → CAnswer
opening_told o = answer_with o.shown.number o.shown.values (state_to o.state)

pub record ToldAnswer : Type 0 where
  pub answer : CAnswer
  pub words : List ℕ
  pub cells : List ℕ

abbrev pub told : CAnswer → (words cells : List ℕ) → ToldAnswer
told r words cells = record { answer = r; words = words; cells = cells }

abbrev pub after_told : CState → After → ToldAnswer
after_told c a = told (answer_told c a.shown a.world.state) a.world.words a.world.cells
