-- The register's laws, once over the width; what is written and read is the law of `InRegister`. Assumes nothing.
use mathlib.Core.Path.{◌≡◌, refl, ap, ◌∙◌}
use mathlib.Core.Bool.{Bool, true, false}
use Prim.Native.Nat.{ℕ}
use native.Mathlib.Nat.{mod-lt, mod-eq_of_lt}
use lib.IntN.{ℤ, pos}
use lib.Pow.{pow_pos}
use mir.Syntax.{Width}
use mir.Val.{Fits, SFits, bits, to_z}
use mir.Facts.{to_z-of_z, of_z-to_z, Fits-of_z}
use Rattle.regs.specs.Convert.{zero_extended, low_bits, signed_low_bits, truth_bit, truth_of}

module _ (w : Width) where
  -- bits that fit are the low bits
  pub low_of_fit : (n : ℕ) → Fits w n → low_bits w n ≡ n
  low_of_fit n f = mod-eq_of_lt f.fits

  -- written and read, a number is as it was
  pub write_read_unsigned : (n : ℕ) → Fits w n → low_bits w (zero_extended w (pos n)) ≡ n
  write_read_unsigned n f = low_of_fit n f

  pub write_read_signed : (z : ℤ) → SFits w z → signed_low_bits w (zero_extended w z) ≡ z
  write_read_signed z f = ap (to_z w) (low_of_fit (zero_extended w z) (Fits-of_z f)) ∙ to_z-of_z f

  -- read and written, a register keeps its low bits
  pub read_write_unsigned : (r : ℕ) → zero_extended w (pos (low_bits w r)) ≡ low_bits w r
  read_write_unsigned r = refl

  pub read_write_signed : (r : ℕ) → zero_extended w (signed_low_bits w r) ≡ low_bits w r
  read_write_signed r = of_z-to_z {w = w} (record { fits = mod-lt r (pow_pos (bits w)) })

pub write_read_bool : (b : Bool) → truth_of (truth_bit b) ≡ b
write_read_bool true = refl
write_read_bool false = refl
