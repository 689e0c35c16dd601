-- The records of statements written out once more, so that none of their fields can go, come or change unseen: a field that is missing, an assumption that is
-- new, or other words, are refused where these are proved.
--     ResumedPinned     all that follows by the return theorem
--     CalledPinned      all that it assumes
--     SoundPinned       what a sound world is
--     TailsPinned, DebtPinned       all that follows of a run of tail calls, and of its debt
--     NothingOwedPinned             all that the debt's part assumes
use Rattle.std.specs.Prelude.{◌≡◌, true, false, ◌↔◌, List, ℕ, ◌-◌, ◌<◌, None, Some}
use Rattle.frames.specs.Rows.{with_ip, broken_row}
use Rattle.frames.specs.Debts.{debt_of}
use Rattle.rules.specs.declared.PushArgs.{PushArgs}
use Rattle.rules.specs.declared.ReplaceArgs.{ReplaceArgs}
use Rattle.rules.specs.declared.Request.{Request}
use Rattle.rules.specs.declared.Asked.TheVariants.{Traced}
use Rattle.rules.specs.World.{World, frame_at, top_frame, cell_at, top_start}
use Rattle.rules.specs.Answers.{After}
use Rattle.rules.specs.Broken.{broken_state}
use Rattle.rules.specs.Rules.{answered}
use Rattle.rules.specs.Sound.{Sound}
use Rattle.rules.specs.Events.{Event, ran_through}
use Rattle.rules.specs.Returning.{Accepted, the_call, after_call, NeverBelow, Unwritten, Gives, the_return, CalledAndReturned, CallerResumed}
use Rattle.rules.specs.Tails.{AllTails, ends_of, greatest, other_named, TailsKept, NothingOwed, DebtKept}

abbrev pub ResumedPinned : Type 0
ResumedPinned =
    (w : World) (A p s : ℕ) (es : List Event) (v : World) (i : ℕ) (t : After) → CallerResumed w A p s es v i t
    ↔ (((j : ℕ) → j < w.state.count - 1 → frame_at t.world j ≡ frame_at w j)
    × (frame_at t.world (w.state.count - 1) ≡ with_ip (top_frame w) p)
    × (t.world.state.current ≡ Some A)
    × (t.shown.number ≡ 0)
    × (t.shown.values.ip ≡ p)
    × (t.shown.values.offset ≡ top_start w)
    × ((d : ℕ) → debt_of (top_frame v) ≡ Some d → t.shown.values.instance ≡ A)
    × (i ≡ A → t.shown.values.instance ≡ A)
    × (v.state.current ≡ Some i → t.shown.values.instance ≡ A)
    × ((k : ℕ) → k < s → Unwritten k es → cell_at t.world k ≡ cell_at w k))

abbrev pub CalledPinned : Type 0
CalledPinned =
    (w : World) (A : ℕ) (q : PushArgs) (es : List Event) (r : Request) (i : ℕ) → CalledAndReturned w A q es r i
    ↔ ((0 < w.state.count)
    × (w.state.current ≡ Some A)
    × Accepted (the_call w q)
    × NeverBelow (after_call w q).state.count (after_call w q) es
    × Gives r i
    × Accepted (the_return w q es r)
    × ((the_return w q es r).world.state.count ≡ w.state.count))

abbrev pub SoundPinned : Type 0
SoundPinned =
    (w : World) → Sound w
    ↔ ((broken_state w ≡ false)
    × ((i : ℕ) → i < w.state.count → broken_row (frame_at w i) w.state.len ≡ false))

abbrev pub TailsPinned : Type 0
TailsPinned =
    (w : World) (qs : List ReplaceArgs) (v : World) → TailsKept w qs v
    ↔ ((v.state.count ≡ w.state.count)
    × (top_start v ≡ top_start w)
    × ((j : ℕ) → j < w.state.count - 1 → frame_at v j ≡ frame_at w j)
    × (v.state.len ≡ greatest w.state.len (ends_of (top_start w) qs)))

abbrev pub NothingOwedPinned : Type 0
NothingOwedPinned =
    (w : World) (A : ℕ) → NothingOwed w A
    ↔ ((debt_of (top_frame w) ≡ None)
    × (w.state.current ≡ Some A))

abbrev pub DebtPinned : Type 0
DebtPinned =
    (w : World) (A : ℕ) (qs : List ReplaceArgs) (v : World) → DebtKept w A qs v
    ↔ ((debt_of (top_frame v) ≡ None ↔ other_named A qs ≡ false)
    × (debt_of (top_frame v) ≡ Some A ↔ other_named A qs ≡ true)
    × (other_named A qs ≡ true → (fs : List Event) → AllTails fs → debt_of (top_frame (ran_through v fs)) ≡ Some A)
    × (1 < w.state.count → (r : Request) (i : ℕ) → Gives r i → Accepted (answered v (Traced r))
    → (answered v (Traced r)).world.state.current ≡ Some A))
