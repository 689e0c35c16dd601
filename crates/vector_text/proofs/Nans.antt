-- When a float, or a pattern, is no NaN: so its bits can be read, or a float be made of it. Assumes nothing.
use Rattle.std.proofs.Common.{◌≡◌, ℕ, ◌%◌, ◌≤◌, Bool, true, false, not, T, refl, ◌∙◌, true≢false, le-ltb}
use lib.Ieee.{Float, nan, inf, fin, binary32, binary64, is_nan, ne, nan_bits}
use lib.Ieee.Bits.{nan_bits_above}

pub equals_itself : (x : Float) → ne x x ≡ false → is_nan x ≡ false
unfolding ne is_nan
equals_itself nan h = absurd (true≢false h)
equals_itself (inf s) h = refl
equals_itself (fin s m e) h = refl

pub false_not : (b : Bool) → b ≡ false → T (not b)
false_not false e = tt
false_not true e = absurd (true≢false e)

pub within_32 : (n : ℕ) → n % 2147483648 ≤ 2139095040 → nan_bits binary32 n ≡ false
within_32 n h = nan_bits_above binary32 n ∙ le-ltb 2139095040 (n % 2147483648) h

pub within_64 : (n : ℕ) → n % 9223372036854775808 ≤ 9218868437227405312 → nan_bits binary64 n ≡ false
within_64 n h = nan_bits_above binary64 n ∙ le-ltb 9218868437227405312 (n % 9223372036854775808) h
