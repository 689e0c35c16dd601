-- T-13 for replayed traces: records of which each asks for a replace, a sync, a set or a restore, or reads badly; accepted or refused.
--     return_after v ds r       the record of a return, behind them
--     TraceTails               where the run has not stopped, what rules says of what they ask for
--     TraceTailReturn          and one accepted return then makes the instance A current, if a caller's frame exists
--     StoppedTails             where it stopped before a record, the same of those before it: a stop changes nothing
use Rattle.std.specs.Prelude.{◌≡◌, ℕ, ◌<◌, false, List, Ok, Some, is_some}
use Rattle.rules.specs.declared.Request.{Request}
use Rattle.rules.specs.Returning.{Gives}
use Rattle.rules.specs.Tails.{AllTails, NothingOwed, TailsFollow}
use Rattle.request.specs.Requests.{Decoded}
use Rattle.replay.specs.Running.{Running, ShownRan, ran, ran_all}
use Rattle.replay.specs.Spent.{StoppedAt}
use Rattle.replay.specs.Resumed.{events_of}

abbrev pub TraceTails : Type 0
TraceTails =
    (v : Running) (ds : List Decoded) → AllTails (events_of ds) → is_some (ran_all v ds).stop ≡ false
    → TailsFollow v.world (events_of ds) (ran_all v ds).world

abbrev pub return_after : Running → List Decoded → Request → ShownRan
return_after v ds r = ran (ran_all v ds) (Ok r)

abbrev pub TraceTailReturn : Type 0
TraceTailReturn =
    (v : Running) (ds : List Decoded) (A : ℕ) (r : Request) (i : ℕ) → AllTails (events_of ds) → NothingOwed v.world A → 1 < v.world.state.count
    -- the return is accepted, and the fuel has covered all
    → Gives r i
    → (return_after v ds r).answer < 2
    → is_some (return_after v ds r).run.stop ≡ false
    → (return_after v ds r).run.world.state.current ≡ Some A

abbrev pub StoppedTails : Type 0
StoppedTails =
    (v : Running) (ds : List Decoded) (cost : ℕ) (es : List Decoded) (d : Decoded) (fs : List Decoded)
    → AllTails (events_of ds)
    → StoppedAt v ds cost es d fs
    → TailsFollow v.world (events_of es) (ran_all v ds).world
