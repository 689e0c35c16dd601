-- Where a block is cut. Nothing here has to be believed but the promise of `cut_block`: feed and the listing's form of it run what it says.
--     cut_from h n               how many bytes of a block of n complete the record of which h bytes are held: none where none are held, or too few come
--     cut_to h n                 the place behind the last whole record of the block
--     first_in held block        the record that is completed: the held bytes, and those; no bytes where none is
--     first_count c              how many of the bytes that a cut keeps of it are run: none, or all
--     cut_of held block          these, and the bytes left over
use Rattle.std.specs.Prelude.{◌||◌, List, [], ◌++◌, ℕ, ◌+◌, ◌-◌, eqb, ltb, length, take, drop}
use Rattle.choice.specs.Choose.{choose}
use Rattle.record.specs.Form.{record_size}
use Rattle.tape.specs.declared.cut.Cut.{Cut}
use Rattle.tape.specs.Tapes.{kept_of, whole_bytes, rest_in}

unfoldable pub cut_from : (h n : ℕ) → ℕ
cut_from h n = choose (eqb h 0 || ltb (h + n) record_size) 0 (record_size - h)

abbrev pub cut_to : (h n : ℕ) → ℕ
cut_to h n = cut_from h n + whole_bytes (n - cut_from h n)

unfoldable pub first_in : (held block : List ℕ) → List ℕ
first_in held block =
    let from = cut_from (length held) (length block) in
    choose (eqb from 0) [] (held ++ take from block)

abbrev pub first_count : Cut → ℕ
first_count c = choose (eqb c.from 0) 0 record_size

abbrev pub cut_with : (first : List ℕ) (from to : ℕ) (rest : List ℕ) → Cut
cut_with first from to rest = record { first = kept_of first; from = from; to = to; rest = kept_of rest; left = length rest }

unfoldable pub cut_of : (held block : List ℕ) → Cut
cut_of held block = cut_with (first_in held block) (cut_from (length held) (length block)) (cut_to (length held) (length block)) (rest_in (held ++ block))

-- what is left of the cutting once the first record is known, and the place behind its bytes
unfoldable pub cut_behind : (first : List ℕ) (from : ℕ) (block : List ℕ) → Cut
cut_behind first from block = record {
  first = first;
  from = from;
  to = from + whole_bytes (length block - from);
  rest = kept_of (rest_in (drop from block));
  left = length (rest_in (drop from block));
}
