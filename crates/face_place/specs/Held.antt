-- A state in words, as x86-64 has it: depth, height, words, cells, count, `len`, the flag of the current instance and the instance, then the registers in three.
-- A flag of 0 reads as none whatever the number beside it, any other as given.
--     state_held st regs             the state that the first eight say, with these registers
--     registers_held ws at           the registers in three words from a place on: of the second the low half, where the f32 lies
--     none_held st                   the words with no current instance: as they came where there was none
--     current_put st g               the words with this current instance, its flag 1
--     moved_put st s                 the words with the count, `len` and current instance of a state
--     len_put st s                   with its `len` alone
--     registers_laid st ws           with these three in place of the registers
--     emptied_put st                 with no frame, no instance, `len` and registers 0
--     unless_refused number st st'   the words after an answer with this number: on a refusal as they came
use Rattle.std.specs.Prelude.{List, [], ◌∷◌, ℕ, ◌+◌, leb, eqb, get_or, set, Option, None, Some}
use Rattle.std.specs.Float.Ieee.{of_bits}
use Rattle.std.specs.Float.{binary32, binary64}
use Rattle.std.specs.Int.{w32}
use Rattle.std.specs.Bool.{then_some}
use Rattle.choice.specs.Choose.{choose}
use Rattle.regs.specs.Convert.{low_bits, truth_of}
use Rattle.regs.specs.declared.registers.Registers.{Registers}
use Rattle.regs.specs.Registers.{registers_of}
use Rattle.rules.specs.declared.State.{State}

abbrev pub state_of : (depth height words cells count len flag current : ℕ) → Registers → State
state_of depth height words cells count len flag current regs = record {
  depth = depth;
  height = height;
  words = words;
  cells = cells;
  count = count;
  len = len;
  current = then_some (truth_of flag) current;
  regs = regs;
}

abbrev pub state_held : List ℕ → Registers → State
state_held st regs =
    state_of (get_or st 0 0) (get_or st 1 0) (get_or st 2 0) (get_or st 3 0) (get_or st 4 0) (get_or st 5 0) (get_or st 6 0) (get_or st 7 0) regs

abbrev pub registers_held : List ℕ → (at : ℕ) → Registers
registers_held ws at = registers_of (get_or ws at 0) (of_bits binary32 (low_bits w32 (get_or ws (at + 1) 0))) (of_bits binary64 (get_or ws (at + 2) 0))

-- ---- what a request writes

unfoldable pub none_held : List ℕ → List ℕ
none_held st = choose (eqb (get_or st 6 0) 0) st (set (set st 6 0) 7 0)

abbrev pub current_put : List ℕ → Option ℕ → List ℕ
current_put st None = none_held st
current_put st (Some instance) = set (set st 6 1) 7 instance

abbrev pub moved_put : List ℕ → State → List ℕ
moved_put st s = current_put (set (set st 4 s.count) 5 s.len) s.current

abbrev pub len_put : List ℕ → State → List ℕ
len_put st s = set st 5 s.len

abbrev pub registers_laid : List ℕ → (ws : List ℕ) → List ℕ
registers_laid st ws = set (set (set st 8 (get_or ws 0 0)) 9 (get_or ws 1 0)) 10 (get_or ws 2 0)

abbrev pub emptied_put : List ℕ → List ℕ
emptied_put st = registers_laid (set (set (set (set st 4 0) 5 0) 6 0) 7 0) (0 ∷ 0 ∷ 0 ∷ [])

unfoldable pub unless_refused : (number : ℕ) (st st' : List ℕ) → List ℕ
unless_refused number st st' = choose (leb 2 number) st st'
