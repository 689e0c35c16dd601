-- What blocks are answered, and what is kept. Assumes nothing.
--     feeding_leaves       the tape that comes back with the number
--     empty_block, exactly_22, only_22, all_done, tidy_stays
use mathlib.Core.Path.{◌≡◌, refl, sym, ap, ◌∙◌}
use mathlib.Core.Bool.{Bool, true, false}
use mathlib.Core.List.{List, [], ◌∷◌, ◌++◌}
use mathlib.Core.Logic.{◌⊎◌, inl, inr}
use Prim.Native.Nat.{ℕ, ◌≤◌}
use native.Mathlib.Omega.{arith}
use native.Mathlib.Decide.{ℕ_discrete}
use lib.ListN.{length, replicate}
use Rattle.choice.specs.Choose.{choose}
use Rattle.choice.proofs.Choices.{chosen_holds}
use Rattle.replay.specs.Running.{Running, replayed}
use Rattle.tape.specs.Tapes.{Taping, most_held, held_in, kept_of, taping_with, begun, whole_in}
use Rattle.tape.specs.Tapes.{rest_in, has_stopped, went_through, fed, fed_with, feeding, end_told}
use Rattle.tape.specs.AnyCuts.{numbers_of, Coming, a_block, an_end, came_by, came_all, AllDone}
use Rattle.tape.specs.AnyCuts.{EmptyBlock, EndedWithoutStop, Exactly22, Only22, Tidy, TidyStays}
use Rattle.tape.proofs.Whole.{rest_short}
use Rattle.tape.proofs.Feeds.{feed_stopped, fed_stopped, feed_empty, fed_none, fed_ended, feed_refused, feed_goes, fed_on}
use Rattle.tape.proofs.AnyCuts.{held_back, fed_joins, begun_went}

pub empty_block : EmptyBlock
empty_block t = sym (feed_empty t [] refl)

pub only_22 : Only22
unfolding feeding
only_22 t block = chosen_holds (λ x. (x ≡ fed_with (fed t block) 0) ⊎ (x ≡ fed_with t 22)) _ (fed_with t 22) (fed_with (fed t block) 0) (inr refl) (inl refl)

-- ---- exactly then
module _ (t : Taping) (block : List ℕ) where
  no_22 : (feeding t block).number ≡ 22 → (u : Taping) → fed_with u 0 ≡ feeding t block → ⊥
  no_22 p u e = let none : ◌≡◌ {A = ℕ} 0 22 = ap (λ x. x.number) e ∙ p in absurd (omega arith)

  ended_then : (feeding t block).number ≡ 22 → EndedWithoutStop t × (length block ≡ 0 → ⊥)
  ended_then p = by (has_stopped t.run) (ℕ_discrete (length block) 0) t.ended refl refl
    where
      by : (s : Bool) → Dec (length block ≡ 0) → (e : Bool) → has_stopped t.run ≡ s → t.ended ≡ e → EndedWithoutStop t × (length block ≡ 0 → ⊥)
      by true d e q r = absurd (no_22 p t (feed_stopped t block q))
      by false (yes z) e q r = absurd (no_22 p t (feed_empty t block z))
      by false (no n) true q r = (record { told_so = r; unstopped = q }, n)
      by false (no n) false q r = absurd (no_22 p _ (feed_goes t block q n _ r refl))

pub exactly_22 : Exactly22
exactly_22 t block = (ended_then t block, λ h. ap (λ x. x.number) (sym (feed_refused t block h.0.unstopped h.1 h.0.told_so)))

-- ---- the tape that comes back is the one after the block
pub feeding_leaves : (t : Taping) (block : List ℕ) → (feeding t block).tape ≡ fed t block
feeding_leaves t block = by (has_stopped t.run) (ℕ_discrete (length block) 0) t.ended refl refl
  where
    by : (s : Bool) → Dec (length block ≡ 0) → (e : Bool) → has_stopped t.run ≡ s → t.ended ≡ e → (feeding t block).tape ≡ fed t block
    by true d e p q = ap (λ x. x.tape) (sym (feed_stopped t block p)) ∙ sym (fed_stopped t block p)
    by false (yes z) e p q = ap (λ x. x.tape) (sym (feed_empty t block z)) ∙ sym (fed_none t block z)
    by false (no n) true p q = ap (λ x. x.tape) (sym (feed_refused t block p n q)) ∙ sym (fed_ended t block p q)
    by false (no n) false p q = ap (λ x. x.tape) (sym (feed_goes t block p n _ q refl)) ∙ sym (fed_on t block p n q)

-- ---- before the end each block is answered 0
unended_done : (t : Taping) (block : List ℕ) → t.ended ≡ false → (feeding t block).number ≡ 0
unended_done t block q = by (has_stopped t.run) (ℕ_discrete (length block) 0) refl
  where
    by : (s : Bool) → Dec (length block ≡ 0) → has_stopped t.run ≡ s → (feeding t block).number ≡ 0
    by true d p = ap (λ x. x.number) (sym (feed_stopped t block p))
    by false (yes z) p = ap (λ x. x.number) (sym (feed_empty t block z))
    by false (no n) p = ap (λ x. x.number) (sym (feed_goes t block p n _ q refl))

went_unended : (v : Running) (a : List ℕ) → (went_through v a).ended ≡ false
unfolding went_through
went_unended v a = refl

all_done_from : (v : Running) (a : List ℕ) (bs : List (List ℕ)) → numbers_of (went_through v a) bs ≡ replicate (length bs) 0
unfolding numbers_of
all_done_from v a [] = refl
all_done_from v a (b ∷ bs) =
    λ i. unended_done (went_through v a) b (went_unended v a) i ∷ (ap (λ t. numbers_of t bs) (fed_joins v a b) ∙ all_done_from v (a ++ b) bs) i

pub all_done : AllDone
all_done v bs = ap (λ t. numbers_of t bs) (begun_went v) ∙ all_done_from v [] bs

-- ---- what is kept
tidy_with : (v : Running) (l : List ℕ) (e : Bool) → length l ≤ most_held → Tidy (taping_with v l e)
tidy_with v l e h = (h, ap kept_of (sym (held_back l h)))

went_tidy : (v : Running) (bytes : List ℕ) → Tidy (went_through v bytes)
unfolding went_through
went_tidy v bytes =
    tidy_with (replayed v (whole_in bytes)) (choose (has_stopped (replayed v (whole_in bytes))) [] (rest_in bytes)) false
    (chosen_holds (λ l. length l ≤ most_held) (has_stopped (replayed v (whole_in bytes))) [] (rest_in bytes) (omega arith) (rest_short bytes))

came_tidy : (t : Taping) (c : Coming) → Tidy t → Tidy (came_by t c)
unfolding fed end_told
came_tidy t (a_block b) h = chosen_holds Tidy _ t _ h (went_tidy t.run (held_in t ++ b))
came_tidy t an_end h = chosen_holds Tidy _ t _ h (tidy_with (replayed t.run (held_in t)) [] true (omega arith))

all_tidy : (t : Taping) (cs : List Coming) → Tidy t → Tidy (came_all t cs)
unfolding came_all
all_tidy t [] h = h
all_tidy t (c ∷ cs) h = all_tidy (came_by t c) cs (came_tidy t c h)

pub tidy_stays : TidyStays
tidy_stays v cs = all_tidy (begun v) cs (tidy_with v [] false (omega arith))
