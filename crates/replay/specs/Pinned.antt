-- The records of statements written out once more, so that none of their fields can go, come or change unseen.
--     TracePinned       what demand 3 assumes of a trace
--     StoppedPinned     what is told of a run that stopped before a record
use Rattle.std.specs.Prelude.{◌≡◌, ℕ, ◌<◌, false, ◌↔◌, List, ◌∷◌, ◌++◌, Some, is_some}
use Rattle.rules.specs.declared.PushArgs.{PushArgs}
use Rattle.rules.specs.declared.Request.{Request}
use Rattle.rules.specs.Returning.{Gives}
use Rattle.request.specs.Requests.{Decoded}
use Rattle.replay.specs.Costs.{cost_of}
use Rattle.replay.specs.Running.{Running, answer_to, fuel_left, stopped_before, ran_all}
use Rattle.replay.specs.Spent.{StoppedAt}
use Rattle.replay.specs.Resumed.{DepthKept, the_call_ran, the_return_ran, CalledInTrace}

abbrev pub TracePinned : Type 0
TracePinned =
    (v : Running) (A : ℕ) (q : PushArgs) (ds : List Decoded) (r : Request) (i : ℕ) → CalledInTrace v A q ds r i
    ↔ ((0 < v.world.state.count)
    × (v.world.state.current ≡ Some A)
    × ((the_call_ran v q).answer < 2)
    × DepthKept (the_call_ran v q).run.world.state.count (the_call_ran v q).run ds
    × Gives r i
    × ((the_return_ran v q ds r).answer < 2)
    × ((the_return_ran v q ds r).run.world.state.count ≡ v.world.state.count)
    × (is_some (the_return_ran v q ds r).run.stop ≡ false))

abbrev pub StoppedPinned : Type 0
StoppedPinned =
    (v : Running) (ds : List Decoded) (cost : ℕ) (es : List Decoded) (d : Decoded) (fs : List Decoded) → StoppedAt v ds cost es d fs
    ↔ ((ds ≡ es ++ d ∷ fs)
    × (is_some (ran_all v es).stop ≡ false)
    × (cost ≡ cost_of d (answer_to (ran_all v es).world d).shown.number)
    × (fuel_left (ran_all v es) < cost)
    × (ran_all v ds ≡ stopped_before (ran_all v es) cost))
