-- The text of document 01's listing, in bytes: numbers in decimal, a blank between two, a newline at the end of every line.
--     decimal_text n                   a number: no leading zeros, `0` for 0
--     numbers_text ns                  numbers in a line, to its end
--     line_text l                      the line of a record: its number, the answer, the offset, the depth, `len`
--     stopped_text number cost         `stopped`, the record's number and its cost
--     spent_text spent                 `spent` and the sum
-- and of a buffer that a text of at most so many bytes is written into, at a place:
--     ShownText, text_put              the place behind the text, and the bytes; where there is no room for the longest, nothing is written
use Rattle.std.specs.Prelude.{List, [], ◌∷◌, ◌++◌, ℕ, zero, suc, ◌+◌, ◌*◌, ◌/◌, ltb, length}
use Rattle.std.proofs.lemmas.List.Edits.{sets}
use Rattle.io.specs.Digits.{last_digits}
use Rattle.choice.specs.Choose.{choose}
use Rattle.lines.specs.declared.Line.{Line}

-- how many digits a number has, of at most `more` and one
abbrev pub places_in : (more : ℕ) → ℕ → ℕ
places_in zero n = 1
places_in (suc more) n = choose (ltb n 10) 1 (suc (places_in more (n / 10)))

-- the longest number, 2^64 - 1, has 20
abbrev pub longest_number : ℕ
longest_number = 20

unfoldable pub decimal_text : ℕ → List ℕ
decimal_text n = last_digits 10 (places_in 19 n) n

abbrev pub blank : ℕ
blank = 32

abbrev pub newline : ℕ
newline = 10

abbrev pub numbers_text : List ℕ → List ℕ
numbers_text [] = []
numbers_text (n ∷ []) = decimal_text n ++ newline ∷ []
numbers_text (n ∷ m ∷ ns) = decimal_text n ++ blank ∷ numbers_text (m ∷ ns)

unfoldable pub line_text : Line → List ℕ
line_text l = numbers_text (l.number ∷ l.answer ∷ l.offset ∷ l.depth ∷ l.len ∷ [])

-- `stopped` and a blank
abbrev pub stopped_word : List ℕ
stopped_word = 115 ∷ 116 ∷ 111 ∷ 112 ∷ 112 ∷ 101 ∷ 100 ∷ blank ∷ []

-- `spent` and a blank
abbrev pub spent_word : List ℕ
spent_word = 115 ∷ 112 ∷ 101 ∷ 110 ∷ 116 ∷ blank ∷ []

unfoldable pub stopped_text : (number cost : ℕ) → List ℕ
stopped_text number cost = stopped_word ++ numbers_text (number ∷ cost ∷ [])

unfoldable pub spent_text : (spent : ℕ) → List ℕ
spent_text spent = spent_word ++ numbers_text (spent ∷ [])

-- ---- into a buffer

pub record ShownText : Type 0 where
  pub next : ℕ
  pub bytes : List ℕ

abbrev pub shown_text : (next : ℕ) → List ℕ → ShownText
shown_text next bytes = record { next = next; bytes = bytes }

-- five numbers, each with a blank or a newline behind it; no other text is longer
abbrev pub longest_text : ℕ
longest_text = 5 * suc longest_number

unfoldable pub text_put : List ℕ → (at : ℕ) → (text : List ℕ) → ShownText
text_put bytes at text = choose (ltb (length bytes) (at + longest_text)) (shown_text at bytes) (shown_text (at + length text) (sets bytes at text))
