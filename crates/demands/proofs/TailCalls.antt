-- T-13 where hosts stand, from the theorem of rules: a history ends where its events lead. Assumes nothing.
--     tails_said, debt_said     what rules concludes, field by field as it is written out there and here
use mathlib.Core.Path.{◌≡◌, sym, ap, subst, ◌∙◌}
use mathlib.Core.List.{List, ◌++◌}
use Prim.Native.Nat.{ℕ}
use Rattle.frames.specs.Debts.{debt_of}
use Rattle.rules.specs.declared.ReplaceArgs.{ReplaceArgs}
use Rattle.rules.specs.World.{World, top_frame}
use Rattle.rules.specs.Answers.{After}
use Rattle.rules.specs.Events.{Event, ran_through}
use Rattle.rules.specs.Returning.{Accepted}
use Rattle.rules.specs.Tails.{AllTails, TailsKept, DebtKept, TailsFollow}
use Rattle.rules.proofs.Tails.{tails_theorem}
use Rattle.rules.proofs.Pinned.{tails_pinned}
use Rattle.demands.specs.TailCalls.{TailsSaid, DebtSaid, TailsKeep, TailsInTraces}
use Rattle.demands.proofs.Heard.{heard_answered}
use Rattle.demands.proofs.Links.{ran_join, history_ran}

tails_said : {w : World} {qs : List ReplaceArgs} {v : World} → TailsKept w qs v → TailsSaid w qs v
tails_said {w} {qs} {v} h = (tails_pinned w qs v).0 h

debt_said : {w : World} {A : ℕ} {qs : List ReplaceArgs} {v : World} → DebtKept w A qs v → DebtSaid A qs v
debt_said h = (h.empty_while, h.owed_since)

-- events that lead from one world to another
led : (w : World) (es : List Event) (v : World) → AllTails es → v ≡ ran_through w es → TailsFollow w es v
led w es v all same = subst (λ (u : World). TailsFollow w es u) (sym same) (tails_theorem w es all)

pub tails_keep : TailsKeep
tails_keep d w es v history all =
    let follow = led w es v all (history_ran history) in (
      tails_said follow.0,
      λ A none current.
          let kept = follow.1 A (record { no_debt = none; has_instance = current }) in (
            debt_said kept,
            λ other c fs u later tails. ap (λ (x : World). debt_of (top_frame x)) (history_ran later) ∙ kept.owed_on other fs tails,
            λ more r i back gives heard ok.
                let same = heard_answered heard in
                ap (λ (t : After). t.world.state.current) same ∙ kept.return_restores more r i gives (subst Accepted same ok),
          ),
    )

pub tails_in_traces : TailsInTraces
tails_in_traces d w v before between later history all u x first then =
    let follow = led u between x all then in (
      tails_said follow.0,
      λ A none current.
          let kept = follow.1 A (record { no_debt = none; has_instance = current }) in
          (debt_said kept, kept.owed_on, kept.return_restores),
      history_ran history
          ∙ ran_join w before (between ++ later)
          ∙ ap (λ y. ran_through y (between ++ later)) (sym first)
          ∙ ran_join u between later
          ∙ ap (λ y. ran_through y later) (sym then),
    )
