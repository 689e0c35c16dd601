-- T-13 for replayed traces, from the theorem of rules: where a run has not stopped, its world is what its events come to. Assumes nothing.
--     first_tails                                       of records one after another, the first ones ask for the same
--     trace_tails, trace_tail_return, stopped_tails     the three statements
use Rattle.std.specs.Prelude.{Ok, Err}
use Rattle.std.proofs.Common.{◌<◌, List, [], ◌∷◌, ◌++◌, sym, ap, ◌∙◌, subst}
use Rattle.rules.specs.World.{World}
use Rattle.rules.specs.Tails.{AllTails, TailsFollow}
use Rattle.rules.proofs.Tails.{tails_theorem}
use Rattle.request.specs.Requests.{Decoded}
use Rattle.replay.specs.Running.{Running, ShownRan, ran_all}
use Rattle.replay.specs.Resumed.{events_of}
use Rattle.replay.specs.Tailing.{TraceTails, TraceTailReturn, StoppedTails}
use Rattle.replay.proofs.Spent.{ran_verdict}
use Rattle.replay.proofs.Resumed.{unstopped_ran, trace_through}

pub trace_tails : TraceTails
trace_tails v ds all on =
    subst (λ (w : World). TailsFollow v.world (events_of ds) w) (sym (trace_through v ds on)) (tails_theorem v.world (events_of ds) all)

pub trace_tail_return : TraceTailReturn
trace_tail_return v ds A r i all none more gives ok on =
    let back = unstopped_ran (ran_verdict (ran_all v ds) (Ok r)) on in
    ap (λ (x : ShownRan). x.run.world.state.current) back.1
    ∙ ((trace_tails v ds all back.0).1 A none).return_restores more r i gives (subst (λ (x : ShownRan). x.answer < 2) back.1 ok)

first_tails : (es fs : List Decoded) → AllTails (events_of (es ++ fs)) → AllTails (events_of es)
first_tails [] fs all = tt
first_tails (Ok r ∷ es) fs all = (all.0, first_tails es fs all.1)
first_tails (Err e ∷ es) fs all = first_tails es fs all

pub stopped_tails : StoppedTails
stopped_tails v ds cost es d fs all h =
    subst (λ (u : Running). TailsFollow v.world (events_of es) u.world) (sym h.stopped_there)
    (trace_tails v es (first_tails es (d ∷ fs) (subst (λ cs. AllTails (events_of cs)) h.stands_at all)) h.ran_before)
