-- Where a block is cut, by how many bytes are held and how many come. Assumes nothing.
--     cut_behind_lem                            what is left of the cutting once the first record is known
--     cut_unheld, cut_short, cut_full       the three ways: nothing is held, too few bytes come, the record is completed
use mathlib.Core.Path.{◌≡◌, refl, sym, ap, ◌∙◌}
use mathlib.Core.Bool.{Bool, true, false, ◌||◌}
use mathlib.Core.List.{List, [], ◌++◌, append_assoc, append-nil}
use mathlib.Core.Logic.{◌⊎◌, inl, inr}
use Prim.Native.Nat.{ℕ, ◌+◌, ◌-◌, ◌%◌, ◌<◌, ◌≤◌, min}
use native.Mathlib.Omega.{arith}
use lib.Dec.{eqb, ltb}
use lib.ListN.{length, take, drop, replicate, length-append, length-drop, take-append-drop, drop_of_length-le}
use lib.Seq.{sets, sets-eq, drop-drop, take_all, length-take-le}
use borrow.Author.Tests.{eq-eqb, ne_eqb, lt-ltb, le-ltb}
use Rattle.choice.specs.Choose.{choose}
use Rattle.runs.proofs.Lists.{sets_append, sets_whole}
use Rattle.record.specs.Form.{record_size}
use Rattle.request.specs.Entries.{WholeRecords}
use Rattle.tape.specs.declared.cut.Cut.{Cut}
use Rattle.tape.specs.Tapes.{most_held, held_bytes, kept_of, whole_bytes, rest_in}
use Rattle.tape.specs.Cuts.{cut_from, cut_to, first_in, cut_with, cut_of, cut_behind}
use Rattle.tape.proofs.Whole.{rest_joins, rest_all}

-- ---- behind the first record
module _ (block : List ℕ) (from : ℕ) (within : from ≤ length block) where
  abbrev to : ℕ
  to = length block - (length block - from) % record_size

  place_behind : to ≡ from + whole_bytes (length block - from)
  place_behind = omega arith

  rest_behind : drop to block ≡ rest_in (drop from block)
  unfolding rest_in
  rest_behind =
      ap (λ k. drop k block) place_behind
      ∙ sym (drop-drop (whole_bytes (length block - from)) from block)
      ∙ ap (λ n. drop (whole_bytes n) (drop from block)) (sym (length-drop from block))

  left_behind : (length block - from) % record_size ≡ length (rest_in (drop from block))
  left_behind =
      let long = length-drop to block in
      sym (ap length (sym rest_behind) ∙ long ∙ omega arith)

  pub cut_behind_lem : (first rest : List ℕ) → rest ≡ kept_of (take (length block - to) (drop to block))
      → record {
        first = first;
        from = from;
        to = to;
        rest = rest;
        left = (length block - from) % record_size;
      } ≡ cut_behind first from block
  unfolding cut_behind
  cut_behind_lem first rest e = λ i. record {
    first = first;
    from = from;
    to = place_behind i;
    rest = (e ∙ ap kept_of (take_all (length block - to) (drop to block) (rw (length-drop to block) (omega arith)) ∙ rest_behind)) i;
    left = left_behind i;
  }

-- ---- the three ways: none is held, too few bytes come, the record is completed
module _ (held block : List ℕ) where
  pub from_none : (length held ≡ 0) ⊎ (length held + length block < record_size) → cut_from (length held) (length block) ≡ 0
  unfolding cut_from choose
  from_none (inl e) = rw (eq-eqb (length held) 0 e)
  from_none (inr f) = by (eqb (length held) 0)
    where
      by : (t : Bool) → choose (t || ltb (length held + length block) record_size) 0 (record_size - length held) ≡ 0
      by true = refl
      by false = rw (lt-ltb _ _ f)

  pub from_missing : (length held ≡ 0 → ⊥) → record_size ≤ length held + length block → cut_from (length held) (length block) ≡ record_size - length held
  unfolding cut_from choose
  from_missing e f = rw (ne_eqb (length held) 0 e, le-ltb _ _ f)

  first_none : cut_from (length held) (length block) ≡ 0 → first_in held block ≡ []
  unfolding first_in choose
  first_none e = rw (eq-eqb _ 0 e)

  pub first_full : (cut_from (length held) (length block) ≡ 0 → ⊥) → first_in held block ≡ held ++ take (cut_from (length held) (length block)) block
  unfolding first_in choose
  first_full e = rw (ne_eqb _ 0 e)

  none_cut : cut_from (length held) (length block) ≡ 0 → cut_with [] 0 (whole_bytes (length block)) (rest_in (held ++ block)) ≡ cut_of held block
  unfolding cut_of
  none_cut e =
      let to : whole_bytes (length block) ≡ cut_to (length held) (length block) = omega arith in
      λ i. cut_with (sym (first_none e) i) (sym e i) (to i) (rest_in (held ++ block))

  short_cut : length held + length block < record_size → cut_with [] 0 0 (held ++ block) ≡ cut_of held block
  short_cut f =
      let to : 0 ≡ whole_bytes (length block) = omega arith in
      let all = rest_all (held ++ block) (rw (length-append held block) f) in
      (λ i. cut_with [] 0 (to i) (sym all i)) ∙ none_cut (from_none (inr f))

  abbrev pub missing_bytes : List ℕ
  missing_bytes = take (record_size - length held) block

  pub parted : held ++ block ≡ (held ++ missing_bytes) ++ drop (record_size - length held) block
  parted =
      let rest = drop (record_size - length held) block in
      ap (λ l. held ++ l) (sym (take-append-drop (record_size - length held) block)) ∙ sym (append_assoc held missing_bytes rest)

  pub first_length : length held ≤ most_held → record_size ≤ length held + length block → length (held ++ missing_bytes) ≡ record_size
  first_length m f =
      let long : length missing_bytes ≡ record_size - length held = length-take-le (record_size - length held) block (omega arith) in
      length-append held missing_bytes ∙ omega arith

  pub first_whole : length held ≤ most_held → record_size ≤ length held + length block → WholeRecords (held ++ missing_bytes)
  first_whole m f = ap (λ k. k % record_size) (first_length m f)

  full_cut : (length held ≡ 0 → ⊥) → length held ≤ most_held → record_size ≤ length held + length block
      → cut_behind (kept_of (held ++ missing_bytes)) (record_size - length held) block ≡ cut_of held block
  unfolding cut_of cut_behind
  full_cut e m f =
      let from = from_missing e f in
      let first = first_full (λ z. let none : record_size - length held ≡ 0 = sym from ∙ z in absurd (omega arith)) in
      let rest = ap rest_in parted ∙ rest_joins (held ++ missing_bytes) (drop (record_size - length held) block) (first_whole m f) in
      λ i. cut_with (sym (first ∙ ap (λ k. held ++ take k block) from) i) (sym from i)
      (ap (λ k. k + whole_bytes (length block - k)) (sym from) i) (sym rest i)

-- ---- as the code finds them, of kept bytes and a count
module _ (kept : List ℕ) (held r : ℕ) (e : r ≡ min held most_held) (block : List ℕ) where
  holds : take r kept ≡ held_bytes kept held
  holds = ap (λ k. take k kept) e

  pub cut_unheld : (c : Cut) → r ≡ 0 → c ≡ cut_behind (kept_of []) 0 block → c ≡ cut_of (held_bytes kept held) block
  unfolding cut_behind
  cut_unheld c z p =
      p ∙ ap (λ n. cut_with [] 0 n (rest_in block)) (omega arith) ∙ none_cut [] block (from_none [] block (inl refl))
      ∙ ap (λ l. cut_of l block) (ap (λ k. take k kept) (sym z) ∙ holds)

  -- bytes are held
  module _ (full : length kept ≡ record_size) where
    long : length (take r kept) ≡ r
    long = length-take-le r kept (omega arith)

    -- those of the block behind them
    both : (start into bytes : List ℕ) → start ≡ kept_of (take r kept) → into ≡ sets start r bytes → into ≡ kept_of (take r kept ++ bytes)
    both start into bytes p q =
        q ∙ ap (λ l. sets l r bytes) p ∙ ap (λ k. sets (kept_of (take r kept)) k bytes) (sym long ∙ omega arith)
        ∙ sym (sets_append (take r kept) bytes (replicate record_size 0) 0)

    pub cut_short : (start rest : List ℕ) → length block < record_size - r → start ≡ kept_of (take r kept) → rest ≡ sets start r block
        → record { first = kept_of []; from = 0; to = 0; rest = rest; left = r + length block } ≡ cut_of (held_bytes kept held) block
    cut_short start rest f p q =
        let left : r + length block ≡ length (take r kept ++ block) = sym (length-append (take r kept) block ∙ ap (λ k. k + length block) long) in
        (λ i. record { first = kept_of []; from = 0; to = 0; rest = both start rest block p q i; left = left i })
        ∙ short_cut (take r kept) block (rw long (omega arith)) ∙ ap (λ l. cut_of l block) holds

    -- those that complete the record leave nothing of what was kept behind them
    completes : (into bytes : List ℕ) → r + length bytes ≡ record_size → into ≡ sets kept r bytes → into ≡ kept_of (take r kept ++ bytes)
    completes into bytes all q =
        let ends : drop (r + length bytes) kept ≡ [] = drop_of_length-le kept {i = r + length bytes} (omega arith) in
        let whole = length-append (take r kept) bytes ∙ ap (λ k. k + length bytes) long ∙ all in
        q ∙ sets-eq bytes kept r (omega arith) ∙ ap (λ l. take r kept ++ bytes ++ l) ends ∙ append-nil (take r kept ++ bytes)
        ∙ sym (sets_whole (take r kept ++ bytes) (replicate record_size 0) whole)

    pub cut_full : (first : List ℕ) (c : Cut) → (r ≡ 0 → ⊥) → record_size - r ≤ length block → first ≡ sets kept r (take (record_size - r) block)
        → c ≡ cut_behind first (record_size - r) block → c ≡ cut_of (held_bytes kept held) block
    cut_full first c z f q d =
        let whole = full_cut (take r kept) block (λ n. z (sym long ∙ n)) (rw long (omega arith)) (rw long (omega arith)) in
        let missing = length-take-le (record_size - r) block f in
        d ∙ ap (λ l. cut_behind l (record_size - r) block) (completes first (take (record_size - r) block) (omega arith) q)
        ∙ ap (λ k. cut_behind (kept_of (take r kept ++ take (record_size - k) block)) (record_size - k) block) (sym long)
        ∙ whole ∙ ap (λ l. cut_of l block) holds
