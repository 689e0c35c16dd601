-- The sign of a narrow number in all 64 bits, over the width: what is handed on signed is read off its bits each time. Assumes nothing.
use Rattle.std.proofs.Common.{◌≡◌, ℕ, ℤ, T, leb, ap, ◌∙◌, mod-lt, pow_pos, w64, of_z, to_z}
use mir.Syntax.{Width}
use mir.Val.{SFits, bits, hbits}
use mir.Facts.{to_z-of_z, sfits_to_z, sfits_widen}
use Rattle.regs.specs.Convert.{zero_extended, signed_low_bits}

module _ (w : Width) (r : ℕ) where
  reads : SFits w (signed_low_bits w r)
  reads = sfits_to_z (record { fits = mod-lt r (pow_pos (bits w)) })

  pub sign_extended : T (leb (hbits w) (hbits w64)) → (x y : ℤ) → x ≡ signed_low_bits w r → y ≡ to_z w (of_z w x)
      → zero_extended w64 (to_z w64 (of_z w64 y)) ≡ zero_extended w64 (signed_low_bits w r)
  sign_extended k x y p q =
      let same : y ≡ signed_low_bits w r = q ∙ ap (λ z. to_z w (of_z w z)) p ∙ to_z-of_z reads in
      ap (λ z. zero_extended w64 (to_z w64 (of_z w64 z))) same ∙ ap (zero_extended w64) (to_z-of_z {w = w64} (sfits_widen k reads))
