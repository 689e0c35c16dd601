-- How many digits a number has, and what the kit makes of it. Assumes nothing.
--     fewest_most              the fewest digits that hold a number of 64 bits are at most 20
--     places_fewest            the fewest digits that hold a number are as many as it has
--     decimal_made             the digits that the kit makes are the number's text
--     decimal_length           a number's text has a byte, and at most 20
use mathlib.Core.Path.{◌≡◌, refl, ap, ◌∙◌}
use mathlib.Core.List.{[], ◌∷◌}
use Prim.Native.Nat.{ℕ, zero, suc, ◌*◌, ◌-◌, ◌/◌, ◌%◌, ◌^◌, ◌≤◌, ◌<◌}
use native.Mathlib.Omega.{arith}
use native.Mathlib.Nat.{pow-suc, one-le-pow, pow-le-pow_right}
use native.Mathlib.Decide.{dec_le}
use borrow.Author.Tests.{lt-ltb, le-ltb}
use lib.Dec.{ltb, lit<}
use lib.ListN.{length, length-append}
use Rattle.io.specs.Digits.{last_digits, hex_digit_ascii, IsDigitCount}
use Rattle.choice.specs.Choose.{choose}
use Rattle.choice.proofs.Choices.{chosen_holds}
use Rattle.lines.specs.Text.{places_in, longest_number, decimal_text}

-- ---- how many

pub fewest_most : (n r : ℕ) → n < 2 ^ 64 → IsDigitCount 10 1 n r → r ≤ longest_number
fewest_most n r small f = by (dec_le r 20)
  where
    by : Dec (r ≤ 20) → r ≤ 20
    by (yes p) = p
    by (no p) =
        let least : 10 ^ (r - 1) ≤ n = f.2 (omega arith) in
        let more : 10 ^ 20 ≤ 10 ^ (r - 1) = pow-le-pow_right (lit< tt) {i = 20} (omega arith) in
        absurd (omega arith)

pub places_fewest : (more n r : ℕ) → IsDigitCount 10 1 n r → r ≤ suc more → r ≡ places_in more n
unfolding choose
places_fewest zero n r f h = omega arith
places_fewest (suc more) n zero f h = absurd (omega arith)
places_fewest (suc more) n (suc zero) f h = let small : n < 10 = f.1 in rw (lt-ltb n 10 small)
places_fewest (suc more) n (suc (suc k)) f h =
    let less : suc (suc k) - 1 ≡ suc k = omega arith in
    let lesser : suc k - 1 ≡ k = omega arith in
    let least : 10 ^ suc k ≤ n = rw less at (f.2 (omega arith)) in
    let below : n < 10 ^ suc (suc k) = f.1 in
    let one_up : 10 ^ suc k ≡ 10 ^ k * 10 = pow-suc 10 k in
    let two_up : 10 ^ suc (suc k) ≡ 10 ^ suc k * 10 = pow-suc 10 (suc k) in
    let some : 1 ≤ 10 ^ k = one-le-pow k 10 (lit< tt) in
    let large : 10 ≤ n = omega arith in
    let rest = places_fewest more (n / 10) (suc k) (omega arith, omega arith, λ more. rw (ap (λ (k : ℕ). 10 ^ k) lesser) (omega arith)) (omega arith) in
    rw (le-ltb n 10 large) (ap suc rest)

pub decimal_made : (n r : ℕ) → n < 2 ^ 64 → IsDigitCount 10 1 n r → last_digits 10 r n ≡ decimal_text n
unfolding decimal_text
decimal_made n r small f = ap (λ k. last_digits 10 k n) (places_fewest 19 n r f (fewest_most n r small f))

-- ---- how long

digits_length : (k n : ℕ) → length (last_digits 10 k n) ≡ k
digits_length zero n = refl
digits_length (suc k) n =
    length-append (last_digits 10 k (n / 10)) (hex_digit_ascii (n % 10) ∷ []) ∙ omega (arith, digits_length k (n / 10))

places_bounds : (more n : ℕ) → (0 < places_in more n) × (places_in more n ≤ suc more)
places_bounds zero n = (omega arith, omega arith)
places_bounds (suc more) n =
    let rest = places_bounds more (n / 10) in
    chosen_holds (λ k. (0 < k) × (k ≤ suc (suc more))) (ltb n 10) 1 (suc (places_in more (n / 10)))
    (omega arith, omega arith) (omega arith, omega arith)

pub decimal_length : (n : ℕ) → (0 < length (decimal_text n)) × (length (decimal_text n) ≤ longest_number)
unfolding decimal_text
decimal_length n = rw (digits_length (places_in 19 n) n) (places_bounds 19 n)
