-- What the functions promise each other that write a text piece by piece.
--     number_room                      as many bytes as the longest number has, with the byte behind it
--     ended_number n end               a number and the byte that ends it
--     text_laid bytes at text          the place behind a text and the bytes that have it, where there is room
use Rattle.std.specs.Prelude.{List, [], ◌∷◌, ◌++◌, ℕ, suc, ◌+◌, length}
use Rattle.std.proofs.lemmas.List.Edits.{sets}
use Rattle.lines.specs.Text.{longest_number, decimal_text, ShownText, shown_text}

abbrev pub number_room : ℕ
number_room = suc longest_number

unfoldable pub ended_number : (n end : ℕ) → List ℕ
ended_number n end = decimal_text n ++ end ∷ []

unfoldable pub text_laid : List ℕ → (at : ℕ) → (text : List ℕ) → ShownText
text_laid bytes at text = shown_text (at + length text) (sets bytes at text)
