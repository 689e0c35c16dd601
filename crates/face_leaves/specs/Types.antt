-- The types of numbers that a register is read and written as, by number: 1 to 4 are u8, u16, u32, u64, 5 to 8 are i8, i16, i32, i64, 9 is bool; any other is
-- taken as u64. A number goes in and out as 64 bits, a signed one with its sign in all of them.
--     register_for type number      the register of a number, of which the low bits count
--     number_for type register      the number that a register reads as
use Rattle.std.specs.Prelude.{ℕ, pos, ◌==◌}
use Rattle.std.specs.Int.{Width, w8, w16, w32, w64}
use Rattle.choice.specs.Choose.{choose}
use Rattle.regs.specs.Convert.{zero_extended, low_bits, signed_low_bits, truth_bit, truth_of}

-- one of the nine types, by number
abbrev pub by_type : (type : ℕ) (unsigned signed : Width → ℕ) (truth : ℕ) → ℕ
by_type type unsigned signed truth =
    choose (type == 1) (unsigned w8)
    (choose (type == 2) (unsigned w16)
    (choose (type == 3) (unsigned w32)
    (choose (type == 5) (signed w8)
    (choose (type == 6) (signed w16)
    (choose (type == 7) (signed w32)
    (choose (type == 8) (signed w64)
    (choose (type == 9) truth
    (unsigned w64))))))))

unfoldable pub register_for : (type number : ℕ) → ℕ
register_for type number =
    by_type type (λ w. zero_extended w (pos (low_bits w number))) (λ w. zero_extended w (signed_low_bits w number)) (truth_bit (truth_of number))

unfoldable pub number_for : (type register : ℕ) → ℕ
number_for type register =
    by_type type (λ w. low_bits w register) (λ w. zero_extended w64 (signed_low_bits w register)) (truth_bit (truth_of register))
