-- A record by its kind, and the record at a place. Assumes nothing.
--     broken_says, kept_says       a record that breaks the rules of its kind's row, or keeps them
--     no_kind_says                 a kind that is none of the nine
--     request_says                 the record of a request says it
--     fields_say_lem, fields_say_none  the record at a place, by what its numbers gave
use Rattle.std.specs.Prelude.{Ok, Err}
use Rattle.std.proofs.Common.{◌≡◌, ℕ, ◌+◌, ◌<◌, ◌≤◌, Bool, true, false, not, List, length, sym, refl, ap, ◌∙◌, arith}
use native.Mathlib.Decide.{dec_lt}
use Rattle.choice.specs.Choose.{choose}
use Rattle.choice.proofs.Choices.{chosen_first, chosen_second}
use Rattle.record.specs.declared.Record.{Record}
use Rattle.record.specs.declared.table.KindRow.{KindRow}
use Rattle.record.specs.Kinds.{row_of_kind, lawful_record}
use Rattle.record.specs.Coded.{coded_row, lawful_as}
use Rattle.record.specs.Reading.{read_number, read_refused, read_at, fields_at, found_lawful, bad_record}
use Rattle.record.proofs.Coding.{kind_zero, kind_beyond, lawful_as_lem}
use Rattle.record.proofs.Reading.{fields_bad, fields_found}
use Rattle.rules.specs.declared.Request.{Request}
use Rattle.request.specs.Requests.{record_for, request_in}
use Rattle.request.specs.Entries.{entry_at}
use Rattle.request.proofs.Meanings.{request_said, request_lawful}
use Rattle.request.proofs.Nexts.{next_found, next_bad}
use Rattle.request.proofs.Entries.{entry_asks, entry_bad}
use Rattle.replay.specs.ByKind.{entry_for}

peeled : (n k : ℕ) → n ≤ k + 1 → (n ≡ k + 1 → ⊥) → n ≤ k
peeled n k h ne = omega arith

module _ (r : Record) where
  -- b is what `keeps_row` said of its kind's row
  module _ (k : ℕ) (e : r.kind ≡ k) (row : KindRow) (is : row ≡ coded_row (row_of_kind k)) (b : Bool) (p : b ≡ lawful_as row r) where
    kept_so : b ≡ lawful_record r
    kept_so = p ∙ ap (λ (row : KindRow). lawful_as row r) is ∙ lawful_as_lem r k e

    pub broken_says : b ≡ false → Err bad_record ≡ entry_for r
    unfolding entry_for
    broken_says f = chosen_second _ _ _ _ _ (sym kept_so ∙ f) refl

    pub kept_says : b ≡ true → (q : Request) → q ≡ request_in r → Ok q ≡ entry_for r
    unfolding entry_for
    kept_says t q says = chosen_first _ _ _ _ _ (sym kept_so ∙ t) (ap Ok says)

  none_of_nine : (r.kind ≡ 1 → ⊥) → (r.kind ≡ 2 → ⊥) → (r.kind ≡ 3 → ⊥) → (r.kind ≡ 4 → ⊥) → (r.kind ≡ 5 → ⊥) → (r.kind ≡ 6 → ⊥) → (r.kind ≡ 7 → ⊥)
      → (r.kind ≡ 8 → ⊥) → (r.kind ≡ 9 → ⊥) → false ≡ lawful_record r
  none_of_nine a b c d e f g h i = by (dec_lt 9 r.kind)
    where
      by : Dec (9 < r.kind) → false ≡ lawful_record r
      by (yes more) = kind_beyond r more
      by (no less) =
          let last : r.kind ≤ 9 = omega arith in
          let five = peeled _ 5 (peeled _ 6 (peeled _ 7 (peeled _ 8 last i) h) g) f in
          let none = peeled _ 0 (peeled _ 1 (peeled _ 2 (peeled _ 3 (peeled _ 4 five e) d) c) b) a in
          kind_zero r (omega (arith, none))

  pub no_kind_says : (r.kind ≡ 1 → ⊥) → (r.kind ≡ 2 → ⊥) → (r.kind ≡ 3 → ⊥) → (r.kind ≡ 4 → ⊥) → (r.kind ≡ 5 → ⊥) → (r.kind ≡ 6 → ⊥) → (r.kind ≡ 7 → ⊥)
      → (r.kind ≡ 8 → ⊥) → (r.kind ≡ 9 → ⊥) → Err bad_record ≡ entry_for r
  unfolding entry_for
  no_kind_says a b c d e f g h i = chosen_second _ _ _ _ _ (sym (none_of_nine a b c d e f g h i)) refl

-- ---- the record of a request
pub request_says : (q : Request) → entry_for (record_for q) ≡ Ok q
unfolding entry_for
request_says q = sym (chosen_first _ _ _ _ _ (request_lawful q) (ap Ok (sym (request_said q))))

-- ---- the record at a place before the end
module _ (bytes : List ℕ) (at : ℕ) (inside : at < length bytes) where
  pub fields_say_none : read_refused 10 ≡ fields_at bytes at → Err bad_record ≡ entry_at bytes at
  fields_say_none e = sym (entry_bad bytes at _ inside (next_bad bytes at inside (fields_bad bytes at e))).0

  pub fields_say_lem : (r : Record) → read_number 0 r ≡ fields_at bytes at → entry_for r ≡ entry_at bytes at
  unfolding entry_for found_lawful choose
  fields_say_lem r e = by (lawful_record r) (fields_found bytes at r e)
    where
      by : (b : Bool) → choose (not b) (read_refused 10) (read_number 0 r) ≡ read_at bytes at → choose b (Ok (request_in r)) (Err bad_record) ≡ entry_at bytes at
      by true p = sym (entry_asks bytes at _ _ inside (next_found bytes at inside r p)).0
      by false p = sym (entry_bad bytes at _ inside (next_bad bytes at inside p)).0
