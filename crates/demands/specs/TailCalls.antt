-- Tail calls forever, no deeper (document 02, T-13), where hosts stand: replaces, with syncs, sets, restores and register syncs among them, by whatever
-- functions, accepted or refused.
--     TailsSaid          what follows of a run with the accepted replaces qs, from the world w to v
--     DebtSaid           and of its debt, where it was empty with the instance A current
--     TailsKeep          of a history of these; and of a history of these that follows, or a return that was heard
--     TailsInTraces      the same of these where they stand anywhere among the events of a history, so also inside a trace
use Rattle.std.specs.Prelude.{◌≡◌, true, false, ◌↔◌, List, ◌++◌, ℕ, ◌-◌, ◌<◌, None, Some}
use Rattle.frames.specs.Debts.{debt_of}
use Rattle.rules.specs.declared.ReplaceArgs.{ReplaceArgs}
use Rattle.rules.specs.declared.Request.{Request}
use Rattle.rules.specs.declared.Asked.TheVariants.{Traced}
use Rattle.rules.specs.World.{World, frame_at, top_frame, top_start}
use Rattle.rules.specs.Answers.{After}
use Rattle.rules.specs.Rules.{answered}
use Rattle.rules.specs.Events.{Event, ran_through}
use Rattle.rules.specs.Returning.{Accepted, Gives}
use Rattle.rules.specs.Tails.{AllTails, accepted_replaces, ends_of, greatest, other_named}
use Rattle.demands.specs.Heard.{Heard}
use Rattle.demands.specs.Links.{History}

abbrev pub TailsSaid : (w : World) (qs : List ReplaceArgs) (v : World) → Type 0
TailsSaid w qs v =
    -- the depth, the top start and all older frames are the same
    (v.state.count ≡ w.state.count)
    × (top_start v ≡ top_start w)
    × ((j : ℕ) → j < w.state.count - 1 → frame_at v j ≡ frame_at w j)
    -- `len` is the largest of the old one and start + slots over the accepted replaces with nonzero slots
    × (v.state.len ≡ greatest w.state.len (ends_of (top_start w) qs))

abbrev pub DebtSaid : (A : ℕ) (qs : List ReplaceArgs) (v : World) → Type 0
DebtSaid A qs v =
    -- the debt is empty exactly while no accepted replace has named an instance other than A, and A exactly since one has
    (debt_of (top_frame v) ≡ None ↔ other_named A qs ≡ false)
    × (debt_of (top_frame v) ≡ Some A ↔ other_named A qs ≡ true)

abbrev pub TailsKeep : Type 0
TailsKeep =
    (d : ℕ) (w : World) (es : List Event) (v : World) → History d w es v → AllTails es
    → TailsSaid w (accepted_replaces w es) v
    -- where the frame's debt is empty, with a current instance A
    × ((A : ℕ) → debt_of (top_frame w) ≡ None → w.state.current ≡ Some A
    → DebtSaid A (accepted_replaces w es) v
    -- from then on: whatever such history follows, also a replace that names A again
    × (other_named A (accepted_replaces w es) ≡ true → (c : ℕ) (fs : List Event) (u : World) → History c v fs u → AllTails fs → debt_of (top_frame u) ≡ Some A)
    -- a pop or a return-host is asked for, by any function, and accepted: A is current, if a caller's frame exists
    × (1 < w.state.count → (r : Request) (i : ℕ) (back : After) → Gives r i → Heard v (Traced r) back → Accepted back
    → back.world.state.current ≡ Some A))

abbrev pub TailsInTraces : Type 0
TailsInTraces =
    (d : ℕ) (w v : World) (before between later : List Event) → History d w (before ++ (between ++ later)) v → AllTails between
    -- from the world u to the world x
    → (u x : World)
    → u ≡ ran_through w before
    → x ≡ ran_through u between
    → TailsSaid u (accepted_replaces u between) x
    × ((A : ℕ) → debt_of (top_frame u) ≡ None → u.state.current ≡ Some A
    → DebtSaid A (accepted_replaces u between) x
    × (other_named A (accepted_replaces u between) ≡ true → (fs : List Event) → AllTails fs → debt_of (top_frame (ran_through x fs)) ≡ Some A)
    × (1 < u.state.count → (r : Request) (i : ℕ) → Gives r i → Accepted (answered x (Traced r))
    → (answered x (Traced r)).world.state.current ≡ Some A))
    -- and the history goes on from there
    × (v ≡ ran_through x later)
