-- What a block and the end are answered, by what the tape is. Assumes nothing.
--     asked_rests, asked_refused, asked_goes                 what is known of the tape where the code asked whether nothing is run
--     feed_rests, feed_number                                what a block is answered of which nothing is run; one that is refused
--     feed_stopped, feed_empty, feed_refused, feed_goes      what a block is answered, with the tape after it
--     fed_stopped, fed_ended, fed_none, fed_on               the tape alone
--     told_stopped, told_ended, told_goes                    the tape after an end
use mathlib.Core.Path.{◌≡◌, refl, sym, ap, ◌∙◌}
use mathlib.Core.Bool.{Bool, true, false, ◌||◌, false≢true}
use mathlib.Core.List.{List, [], ◌++◌}
use Prim.Native.Nat.{ℕ}
use native.Mathlib.Omega.{arith}
use native.Mathlib.Decide.{ℕ_discrete}
use lib.ListN.{length}
use borrow.Author.Tests.{eq-eqb, ne_eqb, eqb-false}
use Rattle.std.specs.Prelude.{Result, IsErr, ⊤, is_some, Ok, Err}
use Rattle.choice.specs.Choose.{choose}
use Rattle.choice.proofs.Bools.{neither}
use Rattle.tape.specs.declared.tape.Tape.{Tape}
use Rattle.tape.specs.declared.tape.AfterEnd.{AfterEnd}
use Rattle.replay.specs.Running.{Running, replayed}
use Rattle.tape.specs.Tapes.{Taping, held_in, taping_with, has_stopped, is_empty, rests_told, fed_number, went_through, fed, fed_with, feeding, end_told}

-- ---- whether nothing is run of a block, as the code asks
asked_code : Result Bool AfterEnd → ℕ
asked_code (Ok true) = 0
asked_code (Ok false) = 1
asked_code (Err why) = 2

asked_by : (x y : Bool) (r : Result Bool AfterEnd) → r ≡ choose x (Ok true) (choose y (Err record {}) (Ok false))
    → (r ≡ Ok true → x ≡ true) × ((r ≡ Ok false → (x ≡ false) × (y ≡ false)) × ((why : AfterEnd) → r ≡ Err why → (x ≡ false) × (y ≡ true)))
unfolding choose asked_code
asked_by true y r p = (
  λ e. refl,
  (
    λ e. let none : ◌≡◌ {A = ℕ} 0 1 = ap asked_code (sym p ∙ e) in absurd (omega arith),
    λ why e. let none : ◌≡◌ {A = ℕ} 0 2 = ap asked_code (sym p ∙ e) in absurd (omega arith),
  ),
)
asked_by false true r p = (
  λ e. let none : ◌≡◌ {A = ℕ} 2 0 = ap asked_code (sym p ∙ e) in absurd (omega arith),
  (
    λ e. let none : ◌≡◌ {A = ℕ} 2 1 = ap asked_code (sym p ∙ e) in absurd (omega arith),
    λ why e. (refl, refl),
  ),
)
asked_by false false r p = (
  λ e. let none : ◌≡◌ {A = ℕ} 1 0 = ap asked_code (sym p ∙ e) in absurd (omega arith),
  (
    λ e. (refl, refl),
    λ why e. let none : ◌≡◌ {A = ℕ} 1 2 = ap asked_code (sym p ∙ e) in absurd (omega arith),
  ),
)

module _ (t : Tape) (block : List ℕ) (r : Result Bool AfterEnd) (told : r ≡ rests_told t block) where
  by_tests : r ≡ choose (is_some t.run.stop || is_empty block) (Ok true) (choose t.ended (Err record {}) (Ok false))
  unfolding rests_told
  by_tests = told

  pub asked_rests : r ≡ Ok true → (is_some t.run.stop || is_empty block) ≡ true
  asked_rests = (asked_by (is_some t.run.stop || is_empty block) t.ended r by_tests).0

  goes_by : (is_some t.run.stop || is_empty block) ≡ false → (is_some t.run.stop ≡ false) × (length block ≡ 0 → ⊥)
  goes_by e = ((neither (is_some t.run.stop) (is_empty block) e).0, eqb-false (length block) 0 (neither (is_some t.run.stop) (is_empty block) e).1)

  pub asked_goes : r ≡ Ok false → (is_some t.run.stop ≡ false) × ((length block ≡ 0 → ⊥) × (t.ended ≡ false))
  asked_goes e =
      let asked = (asked_by (is_some t.run.stop || is_empty block) t.ended r by_tests).1.0 e in
      ((goes_by asked.0).0, ((goes_by asked.0).1, asked.1))

  pub asked_refused : (why : AfterEnd) → r ≡ Err why → (is_some t.run.stop ≡ false) × ((length block ≡ 0 → ⊥) × (t.ended ≡ true))
  asked_refused why e =
      let asked = (asked_by (is_some t.run.stop || is_empty block) t.ended r by_tests).1.1 why e in
      ((goes_by asked.0).0, ((goes_by asked.0).1, asked.1))

pub feed_number : (t : Taping) (r : Result ⊤ AfterEnd) → IsErr r → fed_with t (fed_number r) ≡ fed_with t 22
feed_number t (Ok done) e = absurd (false≢true e)
feed_number t (Err why) e = refl

-- ---- a block
module _ (t : Taping) (block : List ℕ) where
  abbrev after : Taping
  after = went_through t.run (held_in t ++ block)

  pub feed_stopped : has_stopped t.run ≡ true → fed_with t 0 ≡ feeding t block
  unfolding feeding fed choose
  feed_stopped s = rw s

  pub fed_stopped : has_stopped t.run ≡ true → fed t block ≡ t
  unfolding fed choose
  fed_stopped s = rw s

  pub feed_empty : length block ≡ 0 → fed_with t 0 ≡ feeding t block
  unfolding feeding fed choose
  feed_empty z = by (has_stopped t.run) t.ended refl refl
    where
      by : (s e : Bool) → has_stopped t.run ≡ s → t.ended ≡ e → fed_with t 0 ≡ feeding t block
      by true e p q = feed_stopped p
      by false true p q = rw (p, q, eq-eqb (length block) 0 z)
      by false false p q = rw (p, q, eq-eqb (length block) 0 z)

  pub feed_rests : (has_stopped t.run || is_empty block) ≡ true → fed_with t 0 ≡ feeding t block
  feed_rests e = by (has_stopped t.run) (ℕ_discrete (length block) 0) refl
    where
      by : (s : Bool) → Dec (length block ≡ 0) → has_stopped t.run ≡ s → fed_with t 0 ≡ feeding t block
      by true d p = feed_stopped p
      by false (yes z) p = feed_empty z
      by false (no n) p = absurd (false≢true (sym (ap (λ s. s || is_empty block) p ∙ ne_eqb (length block) 0 n) ∙ e))

  pub fed_none : length block ≡ 0 → fed t block ≡ t
  unfolding fed choose
  fed_none z = by (has_stopped t.run) t.ended refl refl
    where
      by : (s e : Bool) → has_stopped t.run ≡ s → t.ended ≡ e → fed t block ≡ t
      by true e p q = fed_stopped p
      by false true p q = rw (p, q)
      by false false p q = rw (p, q, eq-eqb (length block) 0 z)

  module _ (goes : has_stopped t.run ≡ false) where
    pub fed_ended : t.ended ≡ true → fed t block ≡ t
    unfolding fed choose
    fed_ended e = rw (goes, e)

    module _ (some : length block ≡ 0 → ⊥) where
      pub feed_refused : t.ended ≡ true → fed_with t 22 ≡ feeding t block
      unfolding feeding choose
      feed_refused e = rw (goes, e, ne_eqb _ 0 some)

      pub feed_goes : (u : Taping) → t.ended ≡ false → u ≡ after → fed_with u 0 ≡ feeding t block
      unfolding feeding fed choose
      feed_goes u e p = rw (goes, e, ne_eqb _ 0 some) (ap (λ x. fed_with x 0) p)

      pub fed_on : t.ended ≡ false → fed t block ≡ after
      unfolding fed choose
      fed_on e = rw (goes, e, ne_eqb _ 0 some)

-- ---- the end
module _ (t : Taping) where
  pub told_stopped : has_stopped t.run ≡ true → t ≡ end_told t
  unfolding end_told choose
  told_stopped s = rw s

  module _ (goes : has_stopped t.run ≡ false) where
    pub told_ended : t.ended ≡ true → t ≡ end_told t
    unfolding end_told choose
    told_ended e = rw (goes, e)

    pub told_goes : (v : Running) → t.ended ≡ false → v ≡ replayed t.run (held_in t) → taping_with v [] true ≡ end_told t
    unfolding end_told choose
    told_goes v e p = rw (goes, e) (ap (λ x. taping_with x [] true) p)
