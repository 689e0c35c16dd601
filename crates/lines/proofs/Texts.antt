-- How long each text is, and what is put where there is room for the longest and where there is not. Assumes nothing.
--     line_some, stopped_some, spent_some       each text has a byte
--     line_fits, stopped_fits, spent_fits       and is no longer than the longest
--     text_put_room, text_put_none                with room for the longest the text is put, and else nothing
use mathlib.Core.Path.{◌≡◌}
use mathlib.Core.List.{List, [], ◌∷◌}
use Prim.Native.Nat.{ℕ, suc, ◌+◌, ◌*◌, ◌≤◌, ◌<◌}
use native.Mathlib.Omega.{arith}
use borrow.Author.Tests.{lt-ltb, le-ltb}
use lib.ListN.{length, length-append}
use lib.Seq.{sets}
use Rattle.choice.specs.Choose.{choose}
use Rattle.lines.specs.declared.Line.{Line}
use Rattle.lines.specs.Text.{decimal_text, newline, blank, numbers_text, line_text, stopped_text, spent_text, shown_text, longest_text, text_put}
use Rattle.lines.proofs.Decimal.{decimal_length}

-- ---- how long

numbers_length : (n : ℕ) (ns : List ℕ) → (0 < length (numbers_text (n ∷ ns))) × (length (numbers_text (n ∷ ns)) ≤ 21 * suc (length ns))
numbers_length n [] = let one = decimal_length n in rw (length-append (decimal_text n) (newline ∷ [])) (omega arith, omega arith)
numbers_length n (m ∷ ns) =
    let one = decimal_length n in
    let rest = numbers_length m ns in
    rw (length-append (decimal_text n) (blank ∷ numbers_text (m ∷ ns))) (omega arith, omega arith)

pub line_some : (l : Line) → 0 < length (line_text l)
unfolding line_text
line_some l = (numbers_length l.number (l.answer ∷ l.offset ∷ l.depth ∷ l.len ∷ [])).0

pub line_fits : (l : Line) → length (line_text l) ≤ longest_text
unfolding line_text
line_fits l = (numbers_length l.number (l.answer ∷ l.offset ∷ l.depth ∷ l.len ∷ [])).1

pub stopped_some : (number cost : ℕ) → 0 < length (stopped_text number cost)
unfolding stopped_text
stopped_some number cost = omega arith

pub stopped_fits : (number cost : ℕ) → length (stopped_text number cost) ≤ longest_text
unfolding stopped_text
stopped_fits number cost = let numbers = numbers_length number (cost ∷ []) in omega arith

pub spent_some : (spent : ℕ) → 0 < length (spent_text spent)
unfolding spent_text
spent_some spent = omega arith

pub spent_fits : (spent : ℕ) → length (spent_text spent) ≤ longest_text
unfolding spent_text
spent_fits spent = let number = numbers_length spent [] in omega arith

-- ---- what is put

module _ (bytes : List ℕ) (at : ℕ) (text : List ℕ) where
  pub text_put_room : at + longest_text ≤ length bytes → text_put bytes at text ≡ shown_text (at + length text) (sets bytes at text)
  unfolding text_put choose
  text_put_room h = rw (le-ltb (length bytes) (at + longest_text) h)

  pub text_put_none : length bytes < at + longest_text → text_put bytes at text ≡ shown_text at bytes
  unfolding text_put choose
  text_put_none h = rw (lt-ltb (length bytes) (at + longest_text) h)
