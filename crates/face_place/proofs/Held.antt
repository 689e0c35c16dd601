-- What the words of a state say once a request has written them. Assumes nothing.
--     moved_held                    after a request that moves count, `len` and current instance
--     len_held                      after one that moves `len` alone
--     emptied_held, laid_held       after a reset, and after a register sync: the registers in words
use Rattle.std.specs.Prelude.{Option, None, Some}
use Rattle.std.specs.Bool.{then_some}
use mathlib.Core.Path.{◌≡◌, refl, ap}
use mathlib.Core.Bool.{Bool, true, false, not}
use mathlib.Core.List.{List, [], ◌∷◌}
use Prim.Native.Nat.{ℕ, ◌≤◌}
use native.Mathlib.Omega.{arith}
use lib.Dec.{eqb}
use lib.ListN.{length, set}
use Rattle.choice.specs.Choose.{choose}
use Rattle.regs.specs.declared.registers.Registers.{Registers}
use Rattle.regs.specs.Registers.{zero_registers}
use Rattle.rules.specs.declared.State.{State}
use Rattle.rules.specs.World.{moved_state, state_with}
use Rattle.face_place.specs.Held.{state_held, registers_held, none_held, moved_put, len_put, registers_laid, emptied_put}

-- a list with so many words
data Eight : List ℕ → Type 0 where
  eight : (a b c d e f g h : ℕ) (rest : List ℕ) → Eight (a ∷ b ∷ c ∷ d ∷ e ∷ f ∷ g ∷ h ∷ rest)

eight_words : (st : List ℕ) → 8 ≤ length st → Eight st
eight_words [] long = absurd (omega arith)
eight_words (a ∷ []) long = absurd (omega arith)
eight_words (a ∷ b ∷ []) long = absurd (omega arith)
eight_words (a ∷ b ∷ c ∷ []) long = absurd (omega arith)
eight_words (a ∷ b ∷ c ∷ d ∷ []) long = absurd (omega arith)
eight_words (a ∷ b ∷ c ∷ d ∷ e ∷ []) long = absurd (omega arith)
eight_words (a ∷ b ∷ c ∷ d ∷ e ∷ f ∷ []) long = absurd (omega arith)
eight_words (a ∷ b ∷ c ∷ d ∷ e ∷ f ∷ g ∷ []) long = absurd (omega arith)
eight_words (a ∷ b ∷ c ∷ d ∷ e ∷ f ∷ g ∷ h ∷ rest) long = eight a b c d e f g h rest

-- no instance after it: both words as they came, where the flag said so already
module _ (regs regs' : Registers) (count len a b c d e f g h : ℕ) (rest : List ℕ) where
  abbrev words : List ℕ
  words = a ∷ b ∷ c ∷ d ∷ e ∷ f ∷ g ∷ h ∷ rest

  none_in : state_held (moved_put words (moved_state (state_held words regs) count None len)) regs'
      ≡ state_with (moved_state (state_held words regs) count None len) regs'
  unfolding none_held choose
  none_in = by (eqb g 0) refl
    where
      moved : List ℕ
      moved = set (set words 4 count) 5 len

      by : (t : Bool) → eqb g 0 ≡ t → state_held (choose t moved (set (set moved 6 0) 7 0)) regs'
          ≡ state_with (moved_state (state_held words regs) count None len) regs'
      by true t = ap (λ u. state_with (moved_state (state_held words regs) count (then_some (not u) h) len) regs') t
      by false t = refl

module _ (regs regs' : Registers) (count len : ℕ) where
  moved_in : (st : List ℕ) → Eight st → (g : Option ℕ)
      → state_held (moved_put st (moved_state (state_held st regs) count g len)) regs' ≡ state_with (moved_state (state_held st regs) count g len) regs'
  moved_in _ (eight a b c d e f g h rest) None = none_in regs regs' count len a b c d e f g h rest
  moved_in _ (eight a b c d e f g h rest) (Some n) = refl

  pub moved_held : (st : List ℕ) → 8 ≤ length st → (g : Option ℕ)
      → state_held (moved_put st (moved_state (state_held st regs) count g len)) regs' ≡ state_with (moved_state (state_held st regs) count g len) regs'
  moved_held st long = moved_in st (eight_words st long)

len_in : (st : List ℕ) → Eight st → (regs : Registers) (s : State) → state_held (len_put st s) regs
    ≡ moved_state (state_held st regs) (state_held st regs).count (state_held st regs).current s.len
len_in _ (eight a b c d e f g h rest) regs s = refl

pub len_held : (st : List ℕ) → 8 ≤ length st → (regs : Registers) (s : State) → state_held (len_put st s) regs
    ≡ moved_state (state_held st regs) (state_held st regs).count (state_held st regs).current s.len
len_held st long = len_in st (eight_words st long)

-- ---- with the registers
data Eleven : List ℕ → Type 0 where
  eleven : (a b c d e f g h i j k : ℕ) (rest : List ℕ) → Eleven (a ∷ b ∷ c ∷ d ∷ e ∷ f ∷ g ∷ h ∷ i ∷ j ∷ k ∷ rest)

eleven_after : (st : List ℕ) → Eight st → 11 ≤ length st → Eleven st
eleven_after _ (eight a b c d e f g h []) long = absurd (omega arith)
eleven_after _ (eight a b c d e f g h (i ∷ [])) long = absurd (omega arith)
eleven_after _ (eight a b c d e f g h (i ∷ j ∷ [])) long = absurd (omega arith)
eleven_after _ (eight a b c d e f g h (i ∷ j ∷ k ∷ rest)) long = eleven a b c d e f g h i j k rest

eleven_words : (st : List ℕ) → 11 ≤ length st → Eleven st
eleven_words st long = eleven_after st (eight_words st (omega arith)) long

emptied_in : (st : List ℕ) → Eleven st → (regs : Registers) → state_held (emptied_put st) (registers_held (emptied_put st) 8)
    ≡ state_with (moved_state (state_held st regs) 0 None 0) zero_registers
emptied_in _ (eleven a b c d e f g h i j k rest) regs = refl

pub emptied_held : (st : List ℕ) → 11 ≤ length st → (regs : Registers) → state_held (emptied_put st) (registers_held (emptied_put st) 8)
    ≡ state_with (moved_state (state_held st regs) 0 None 0) zero_registers
emptied_held st long = emptied_in st (eleven_words st long)

laid_in : (st : List ℕ) → Eleven st → (ws : List ℕ) (regs : Registers) → state_held (registers_laid st ws) (registers_held (registers_laid st ws) 8)
    ≡ state_with (state_held st regs) (registers_held ws 0)
laid_in _ (eleven a b c d e f g h i j k rest) ws regs = refl

pub laid_held : (st : List ℕ) → 11 ≤ length st → (ws : List ℕ) (regs : Registers) → state_held (registers_laid st ws) (registers_held (registers_laid st ws) 8)
    ≡ state_with (state_held st regs) (registers_held ws 0)
laid_held st long = laid_in st (eleven_words st long)
