-- Openings, from the verdict of rules. Assumes nothing.
use mathlib.Core.Path.{◌≡◌, sym, ap, subst, ◌∙◌}
use mathlib.Core.Logic.{◌↔◌, ◌⊎◌, inl, inr}
use mathlib.Core.List.{List}
use Prim.Native.Nat.{ℕ, ◌/◌}
use lib.ListN.{length}
use Rattle.rules.specs.Open.{fresh_state, Opened, opened_as, open_refused, stack_opened}
use Rattle.rules.proofs.Verdicts.{exactly_14, OpeningVerdict, opening_done, opening_refused, opening_verdict}
use Rattle.face.proofs.Handed.{state_kept}
use Rattle.face_ask.specs.Told.{opening_told}
use Rattle.demands.specs.Openings.{opening_said, OpeningHeard, by_open, by_cattlecleat_open, BeyondLimits, OpeningsAnswered}

-- the numbers of an opening say it
opening_said_lem : (o : Opened) → opening_said (opening_told o) ≡ o
opening_said_lem o = λ i. record { shown = o.shown; state = state_kept o.state i }

opening_heard : {bytes D : ℕ} {words cells : List ℕ} {o : Opened} → OpeningHeard bytes D words cells o → o ≡ stack_opened bytes D (length words) (length cells)
opening_heard (by_open κ a r e p) = p
opening_heard (by_cattlecleat_open κ a r e p) = ap opening_said p ∙ opening_said_lem _

either_way : (bytes D words cells : ℕ)
    → (stack_opened bytes D words cells ≡ open_refused 14) ⊎ (stack_opened bytes D words cells ≡ opened_as 0 (fresh_state D (bytes / 8) words cells))
either_way bytes D words cells = by (opening_verdict bytes D words cells)
  where
    by : OpeningVerdict bytes D words cells
        → (stack_opened bytes D words cells ≡ open_refused 14) ⊎ (stack_opened bytes D words cells ≡ opened_as 0 (fresh_state D (bytes / 8) words cells))
    by (opening_done p e) = inr e
    by (opening_refused p e) = inl e

pub openings_answered : OpeningsAnswered
openings_answered bytes D words cells o heard =
    subst
    (λ (u : Opened).
    (u.shown.number ≡ 14 ↔ BeyondLimits bytes D (length words) (length cells))
    × ((u ≡ open_refused 14) ⊎ (u ≡ opened_as 0 (fresh_state D (bytes / 8) (length words) (length cells)))))
    (sym (opening_heard heard))
    (exactly_14 bytes D (length words) (length cells), either_way bytes D (length words) (length cells))
