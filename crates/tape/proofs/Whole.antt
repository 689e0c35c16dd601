-- Whole records and what is left over, of bytes with others behind them. Assumes nothing.
--     whole_joins, rest_joins      behind whole records
--     whole_none, rest_all         of fewer bytes than a record
--     whole_rest                   both are the bytes again; whole_is, rest_short: of what lengths
use mathlib.Core.Path.{◌≡◌, ap, ◌∙◌}
use mathlib.Core.List.{List, [], ◌++◌}
use Prim.Native.Nat.{ℕ, ◌+◌, ◌%◌, ◌<◌, ◌≤◌}
use native.Mathlib.Omega.{arith}
use lib.ListN.{length, take, drop, length-append, length-take, length-drop, take-append-drop}
use lib.Seq.{take-append-add, drop-append-add}
use Rattle.record.specs.Form.{record_size}
use Rattle.request.specs.Entries.{WholeRecords}
use Rattle.tape.specs.Tapes.{whole_bytes, whole_in, rest_in, most_held}

module _ (a b : List ℕ) (whole : WholeRecords a) where
  both_whole : whole_bytes (length (a ++ b)) ≡ length a + whole_bytes (length b)
  both_whole = ap whole_bytes (length-append a b) ∙ omega arith

  pub whole_joins : whole_in (a ++ b) ≡ a ++ whole_in b
  unfolding whole_in
  whole_joins = ap (λ n. take n (a ++ b)) both_whole ∙ take-append-add a b (whole_bytes (length b))

  pub rest_joins : rest_in (a ++ b) ≡ rest_in b
  unfolding rest_in
  rest_joins = ap (λ n. drop n (a ++ b)) both_whole ∙ drop-append-add a b (whole_bytes (length b))

module _ (l : List ℕ) where
  pub whole_none : length l < record_size → whole_in l ≡ []
  unfolding whole_in
  whole_none h = let none : whole_bytes (length l) ≡ 0 = omega arith in rw none

  pub rest_all : length l < record_size → rest_in l ≡ l
  unfolding rest_in
  rest_all h = let none : whole_bytes (length l) ≡ 0 = omega arith in rw none

  pub whole_rest : whole_in l ++ rest_in l ≡ l
  unfolding whole_in rest_in
  whole_rest = take-append-drop (whole_bytes (length l)) l

  pub whole_is : WholeRecords (whole_in l)
  unfolding whole_in
  whole_is = ap (λ n. n % record_size) (length-take (whole_bytes (length l)) l) ∙ omega arith

  pub rest_short : length (rest_in l) ≤ most_held
  unfolding rest_in
  rest_short = let long = length-drop (whole_bytes (length l)) l in omega arith
