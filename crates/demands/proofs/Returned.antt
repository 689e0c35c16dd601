-- Demand 3 where hosts stand, from the return theorem of rules: what was heard is what the definitions answer. Assumes nothing.
--     resumed_said         what rules concludes, field by field as it is written out there and here
--     by_rules             what is assumed gives what rules assumes
use Rattle.std.specs.Prelude.{Some}
use mathlib.Core.Path.{◌≡◌, sym, ap, subst, ◌∙◌}
use mathlib.Core.List.{List, ◌∷◌, ◌++◌}
use Prim.Native.Nat.{ℕ, ◌<◌}
use Rattle.rules.specs.declared.PushArgs.{PushArgs}
use Rattle.rules.specs.declared.Request.{Request}
use Rattle.rules.specs.declared.Request.TheVariants.{Push}
use Rattle.rules.specs.declared.Asked.TheVariants.{Traced}
use Rattle.rules.specs.World.{World, cell_at}
use Rattle.rules.specs.Answers.{no_host, After}
use Rattle.rules.specs.Rules.{answered}
use Rattle.rules.specs.Events.{Event, asks, stepped_by, ran_through}
use Rattle.rules.specs.Returning.{Accepted, the_call, after_call, ip_given, NeverBelow, Gives, before_return, the_return}
use Rattle.rules.specs.Returning.{CalledAndReturned, CallerResumed, KeepToParts}
use Rattle.rules.proofs.Returning.{return_theorem}
use Rattle.rules.proofs.Confined.{confined_hosts}
use Rattle.rules.proofs.Pinned.{resumed_pinned}
use Rattle.demands.specs.Heard.{Heard}
use Rattle.demands.specs.Links.{History}
use Rattle.demands.specs.Returned.{ResumedSaid, CallsReturn, CallsInTraces}
use Rattle.demands.proofs.Heard.{heard_answered}
use Rattle.demands.proofs.Links.{ran_join, history_ran, history_above}

resumed_said : {w : World} {A p s : ℕ} {es : List Event} {v : World} {i : ℕ} {t : After} → CallerResumed w A p s es v i t → ResumedSaid w A p s es v i t
resumed_said {w} {A} {p} {s} {es} {v} {i} {t} h = (resumed_pinned w A p s es v i t).0 h

module _ (w : World) (A : ℕ) (q : PushArgs) (call : After) (es : List Event) (v : World) (r : Request) (i : ℕ) (back : After)
    (has_caller : 0 < w.state.count)
    (has_instance : w.state.current ≡ Some A)
    (call-heard : Heard w (Traced (Push q)) call)
    (call_accepted : Accepted call)
    (between : History call.world.state.count call.world es v)
    (is_return : Gives r i)
    (return-heard : Heard v (Traced r) back)
    (return_accepted : Accepted back)
    (to_caller : back.world.state.count ≡ w.state.count) where
  call_same : call ≡ the_call w q
  call_same = heard_answered call-heard

  last_same : v ≡ before_return w q es
  last_same = history_ran between ∙ ap (λ (t : After). ran_through t.world es) call_same

  back_same : back ≡ the_return w q es r
  back_same = heard_answered return-heard ∙ ap (λ u. answered u (Traced r)) last_same

  by_rules : CalledAndReturned w A q es r i
  by_rules = record {
    has_caller = has_caller;
    has_instance = has_instance;
    call_accepted = subst Accepted call_same call_accepted;
    never_below = subst (λ (t : After). NeverBelow t.world.state.count t.world es) call_same (history_above between);
    is_return = is_return;
    return_accepted = subst Accepted back_same return_accepted;
    to_caller = sym (ap (λ (t : After). t.world.state.count) back_same) ∙ to_caller;
  }

  resumed_as_heard : CallerResumed w A (ip_given q) call.shown.values.offset es v i back
  resumed_as_heard =
      subst (λ (t : After). CallerResumed w A (ip_given q) t.shown.values.offset es v i back) (sym call_same)
      (subst (λ u. CallerResumed w A (ip_given q) (the_call w q).shown.values.offset es u i back) (sym last_same)
      (subst (λ t. CallerResumed w A (ip_given q) (the_call w q).shown.values.offset es (before_return w q es) i t) (sym back_same)
      (return_theorem w A q es r i by_rules).1))

  confined_as_heard : KeepToParts no_host call.world es → (k : ℕ) → k < call.shown.values.offset → cell_at back.world k ≡ cell_at w k
  confined_as_heard kept k b =
      ap (λ (t : After). cell_at t.world k) back_same
      ∙ confined_hosts w A q es r i by_rules (subst (λ (t : After). KeepToParts no_host t.world es) call_same kept) k
      (subst (λ (t : After). k < t.shown.values.offset) call_same b)

pub calls_return : CallsReturn
calls_return w A q call es v r i back some current heard accepted between gives return-heard return_accepted to_caller = (
  (return_theorem w A q es r i (by_rules w A q call es v r i back some current heard accepted between gives return-heard return_accepted to_caller)).0,
  resumed_said (resumed_as_heard w A q call es v r i back some current heard accepted between gives return-heard return_accepted to_caller),
  confined_as_heard w A q call es v r i back some current heard accepted between gives return-heard return_accepted to_caller,
)

-- ---- anywhere among the events

from_call : (u : World) (q : PushArgs) (between : List Event) (r : Request) (later : List Event)
    → ran_through u (asks (Traced (Push q)) ∷ (between ++ asks (Traced r) ∷ later)) ≡ ran_through (the_return u q between r).world later
unfolding ran_through stepped_by
from_call u q between r later = ran_join (after_call u q) between (asks (Traced r) ∷ later)

pub calls_in_traces : CallsInTraces
calls_in_traces d w v before between later A q r i history u same some current accepted above gives returned to_caller =
    let back =
    return_theorem u A q between r i (record {
      has_caller = some;
      has_instance = current;
      call_accepted = accepted;
      never_below = above;
      is_return = gives;
      return_accepted = returned;
      to_caller = to_caller;
    })
    in (
      back.0,
      resumed_said back.1,
      history_ran history
          ∙ ran_join w before (asks (Traced (Push q)) ∷ (between ++ asks (Traced r) ∷ later))
          ∙ ap (λ x. ran_through x (asks (Traced (Push q)) ∷ (between ++ asks (Traced r) ∷ later))) (sym same)
          ∙ from_call u q between r later,
    )
