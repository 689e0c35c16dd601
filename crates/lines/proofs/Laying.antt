-- A text that is written piece by piece. Assumes nothing.
--     laid_then                 a text and then another are both, one after the other
--     laid_number, laid_word    so are a number and the rest, and a word and the rest
--     laid_digits               the digits and the byte behind them are a number that is ended
--     laid_put                  with room for the longest, a text that is laid is put
use mathlib.Core.Path.{◌≡◌, refl, sym, ap, ◌∙◌}
use mathlib.Core.List.{List, [], ◌∷◌, ◌++◌, append_assoc}
use Prim.Native.Nat.{ℕ, ◌+◌, ◌≤◌}
use native.Mathlib.Omega.{arith}
use lib.ListN.{length, set, length-append}
use lib.Seq.{sets}
use Rattle.runs.proofs.Lists.{sets_append}
use Rattle.lines.specs.Text.{decimal_text, ShownText, shown_text, longest_text, text_put}
use Rattle.lines.specs.Pieces.{ended_number, text_laid}
use Rattle.lines.proofs.Texts.{text_put_room}

pub laid_then : (l m o x y : List ℕ) (at k r : ℕ) → shown_text k m ≡ text_laid l at x → shown_text r o ≡ text_laid m k y → shown_text r o ≡ text_laid l at (x ++ y)
unfolding text_laid
laid_then l m o x y at k r first second =
    let place : k ≡ at + length x = ap (λ (s : ShownText). s.next) first in
    let bytes : m ≡ sets l at x = ap (λ (s : ShownText). s.bytes) first in
    let all : length (x ++ y) ≡ length x + length y = length-append x y in
    let next : k + length y ≡ at + length (x ++ y) = omega arith in
    let laid : sets m k y ≡ sets l at (x ++ y) = (λ i. sets (bytes i) (place i) y) ∙ sym (sets_append x y l at) in
    second ∙ (λ i. shown_text (next i) (laid i))

-- a number with the byte that ends it, and the rest
pub laid_number : (l m o rest : List ℕ) (at k r n end : ℕ) → shown_text k m ≡ text_laid l at (ended_number n end)
    → shown_text r o ≡ text_laid m k rest → shown_text r o ≡ text_laid l at (decimal_text n ++ end ∷ rest)
unfolding ended_number
laid_number l m o rest at k r n end first second =
    laid_then l m o (decimal_text n ++ end ∷ []) rest at k r first second
    ∙ ap (text_laid l at) (append_assoc (decimal_text n) (end ∷ []) rest)

-- a word, and the rest
pub laid_word : (l m o word rest : List ℕ) (at k r : ℕ) → k ≡ at + length word → m ≡ sets l at word
    → shown_text r o ≡ text_laid m k rest → shown_text r o ≡ text_laid l at (word ++ rest)
unfolding text_laid
laid_word l m o word rest at k r place bytes second = laid_then l m o word rest at k r (λ i. shown_text (place i) (bytes i)) second

-- digits that are a number's text, and the byte that ends it
pub laid_digits : (l m text : List ℕ) (at k n end : ℕ) → text ≡ decimal_text n → k ≡ at + length text → m ≡ sets l at text
    → shown_text (k + 1) (set m k end) ≡ text_laid l at (ended_number n end)
unfolding text_laid ended_number
laid_digits l m text at k n end made place bytes =
    laid_word l m (set m k end) text (end ∷ []) at k (k + 1) place bytes refl ∙ ap (λ t. text_laid l at (t ++ end ∷ [])) made

-- ---- and put

pub laid_put : (l o text : List ℕ) (at r : ℕ) → at + longest_text ≤ length l → shown_text r o ≡ text_laid l at text → shown_text r o ≡ text_put l at text
unfolding text_laid
laid_put l o text at r room e = e ∙ sym (text_put_room l at text room)
