-- Demand 3, where hosts stand: whatever happens in between, by whatever functions, a return finds the caller as it was.
--     ResumedSaid        what follows, of the world w before the call, its instance A, the ip p that the call gave and the callee's start s, the events es in
--                        between, the world v before the return, the instance i that the return gives, and what it showed and left, t
--     CallsReturn        of a call and a return that were heard, and a history in between: the caller is resumed; and no cell before the callee's start has
--                        changed, where hosts keep to the parts that they are lent
--     CallsInTraces      the same of a call and a return that stand anywhere among the events of a history, so also inside a trace
use Rattle.std.specs.Prelude.{◌≡◌, List, ◌∷◌, ◌++◌, ℕ, ◌-◌, ◌<◌, Some}
use Rattle.frames.specs.Rows.{with_ip}
use Rattle.frames.specs.Debts.{debt_of}
use Rattle.rules.specs.declared.PushArgs.{PushArgs}
use Rattle.rules.specs.declared.Request.{Request}
use Rattle.rules.specs.declared.Request.TheVariants.{Push}
use Rattle.rules.specs.declared.Asked.TheVariants.{Traced}
use Rattle.rules.specs.World.{World, frame_at, top_frame, cell_at, top_start}
use Rattle.rules.specs.Answers.{no_host, After}
use Rattle.rules.specs.Events.{Event, asks, ran_through}
use Rattle.rules.specs.Returning.{Accepted, the_call, after_call, callee_start, ip_given, NeverBelow, Unwritten, Gives, before_return, the_return, KeepToParts}
use Rattle.demands.specs.Heard.{Heard}
use Rattle.demands.specs.Links.{History}

abbrev pub ResumedSaid : (w : World) (A p s : ℕ) (es : List Event) (v : World) (i : ℕ) (t : After) → Type 0
ResumedSaid w A p s es v i t =
    -- every older frame is as before; the caller's is as before save that it holds p
    ((j : ℕ) → j < w.state.count - 1 → frame_at t.world j ≡ frame_at w j)
    × (frame_at t.world (w.state.count - 1) ≡ with_ip (top_frame w) p)
    -- the current instance is the one before the call
    × (t.world.state.current ≡ Some A)
    -- the return's answer is 0, and it names p and the caller's start
    × (t.shown.number ≡ 0)
    × (t.shown.values.ip ≡ p)
    × (t.shown.values.offset ≡ top_start w)
    -- the instance that it names is A where the callee's frame has a debt, and where the return gives A, or the then-current instance
    × ((d : ℕ) → debt_of (top_frame v) ≡ Some d → t.shown.values.instance ≡ A)
    × (i ≡ A → t.shown.values.instance ≡ A)
    × (v.state.current ≡ Some i → t.shown.values.instance ≡ A)
    -- no cell before the callee's start has changed, unless a host wrote it
    × ((k : ℕ) → k < s → Unwritten k es → cell_at t.world k ≡ cell_at w k)

abbrev pub CallsReturn : Type 0
CallsReturn =
    (w : World) (A : ℕ) (q : PushArgs) (call : After) (es : List Event) (v : World) (r : Request) (i : ℕ) (back : After)
    -- there is a caller's frame, and a current instance A
    → 0 < w.state.count
    → w.state.current ≡ Some A
    -- a push is asked for, by any function, and accepted; then a history in which the depth never falls below the callee's
    → Heard w (Traced (Push q)) call
    → Accepted call
    → History call.world.state.count call.world es v
    -- a pop or a return-host is asked for, by any function, accepted, and takes the depth to the caller's
    → Gives r i
    → Heard v (Traced r) back
    → Accepted back
    → back.world.state.count ≡ w.state.count
    -- the push gave an ip, and the caller is resumed
    → (q.caller ≡ Some (ip_given q))
    × ResumedSaid w A (ip_given q) call.shown.values.offset es v i back
    -- and where each host wrote only inside the part that the request just before handed out, no cell before the callee's start has changed
    × (KeepToParts no_host call.world es → (k : ℕ) → k < call.shown.values.offset → cell_at back.world k ≡ cell_at w k)

abbrev pub CallsInTraces : Type 0
CallsInTraces =
    (d : ℕ) (w v : World) (before between later : List Event) (A : ℕ) (q : PushArgs) (r : Request) (i : ℕ)
    → History d w (before ++ asks (Traced (Push q)) ∷ (between ++ asks (Traced r) ∷ later)) v
    -- in the world u before the call, the same as above
    → (u : World)
    → u ≡ ran_through w before
    → 0 < u.state.count
    → u.state.current ≡ Some A
    → Accepted (the_call u q)
    → NeverBelow (after_call u q).state.count (after_call u q) between
    → Gives r i
    → Accepted (the_return u q between r)
    → (the_return u q between r).world.state.count ≡ u.state.count
    -- the caller is resumed, and the history goes on from there
    → (q.caller ≡ Some (ip_given q))
    × ResumedSaid u A (ip_given q) (callee_start u q) between (before_return u q between) i (the_return u q between r)
    × (v ≡ ran_through (the_return u q between r).world later)
