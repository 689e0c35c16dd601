-- Tail calls forever, no deeper (document 02, T-13): any run of replaces, with syncs, sets, restores and register syncs among them, accepted or refused.
--     TailEvent e, AllTails es       the event is one of these; each of a list is
--     accepted_replaces w es          the replaces of a run that are accepted, in their order
--     ends_of s qs                    start + slots, of each with nonzero slots, where the frame starts at s
--     greatest n ms                  the largest of n and all ms
--     other_named A qs                one of them names an instance other than A
--     TailsKept w qs v               what follows of any run with these accepted replaces, from the world w to v
--     NothingOwed w A                what is assumed for the debt: it is empty, and the current instance is A
--     DebtKept w A qs v              what follows then
--     TailsFollow w es v             both, of the events es
-- One statement, TailsTheorem. No world is assumed to be sound, nor to have a frame.
use Rattle.std.specs.Prelude.{◌≡◌, Bool, true, false, not, ◌||◌, ◌↔◌, List, [], ◌∷◌, ◌++◌, ℕ, ◌+◌, ◌-◌, max, ◌<◌, ltb, eqb, Option, None, Some}
use Rattle.choice.specs.Choose.{choose}
use Rattle.regs.specs.declared.registers.Registers.{Registers}
use Rattle.frames.specs.Debts.{debt_of}
use Rattle.rules.specs.declared.ReplaceArgs.{ReplaceArgs}
use Rattle.rules.specs.declared.Request.{Request}
use Rattle.rules.specs.declared.Request.TheVariants.{Push, Pop, Replace, Host, ReturnHost, Sync, Restore, Reset, Set}
use Rattle.rules.specs.declared.Asked.{Asked}
use Rattle.rules.specs.declared.Asked.TheVariants.{Traced, SyncRegs, HostPart}
use Rattle.rules.specs.World.{World, frame_at, top_frame, top_start}
use Rattle.rules.specs.Answers.{After}
use Rattle.rules.specs.Rules.{answered}
use Rattle.rules.specs.Events.{Event, asks, host_wrote, registers_put, stepped_by, ran_through}
use Rattle.rules.specs.Returning.{Accepted, Gives}

-- ---- the run

-- registers may be stored by a register sync, or by the host that holds them
pub data TailEvent : Event → Type 0 where
  tail_replace : (q : ReplaceArgs) → TailEvent (asks (Traced (Replace q)))
  tail_sync : (ip : ℕ) → TailEvent (asks (Traced (Sync ip)))
  tail_set : (head cell : ℕ) → TailEvent (asks (Traced (Set head cell)))
  tail_restore : TailEvent (asks (Traced Restore))
  tail_registers : (regs : Registers) → TailEvent (asks (SyncRegs regs))
  tail_put : (regs : Registers) → TailEvent (registers_put regs)

abbrev pub AllTails : List Event → Type 0
AllTails [] = Unit {0}
AllTails (e ∷ es) = TailEvent e × AllTails es

-- ---- its accepted replaces

abbrev pub is_accepted : After → Bool
is_accepted t = ltb t.shown.number 2

abbrev pub replace_asked : Asked → List ReplaceArgs
replace_asked (Traced (Push q)) = []
replace_asked (Traced (Pop instance)) = []
replace_asked (Traced (Replace q)) = q ∷ []
replace_asked (Traced (Host q)) = []
replace_asked (Traced (ReturnHost q)) = []
replace_asked (Traced (Sync ip)) = []
replace_asked (Traced Restore) = []
replace_asked (Traced Reset) = []
replace_asked (Traced (Set head cell)) = []
replace_asked (SyncRegs regs) = []
replace_asked (HostPart frame) = []

unfoldable pub accepted_by : World → Event → List ReplaceArgs
accepted_by w (asks a) = choose (is_accepted (answered w a)) (replace_asked a) []
accepted_by w (host_wrote at values) = []
accepted_by w (registers_put regs) = []

unfoldable pub accepted_replaces : World → List Event → List ReplaceArgs
accepted_replaces w [] = []
accepted_replaces w (e ∷ es) = accepted_by w e ++ accepted_replaces (stepped_by w e) es

-- ---- `len`

abbrev pub end_of : (start : ℕ) → ReplaceArgs → List ℕ
end_of start q = choose (eqb q.slots 0) [] ((start + q.slots) ∷ [])

unfoldable pub ends_of : (start : ℕ) → List ReplaceArgs → List ℕ
ends_of start [] = []
ends_of start (q ∷ qs) = end_of start q ++ ends_of start qs

unfoldable pub greatest : ℕ → List ℕ → ℕ
greatest n [] = n
greatest n (m ∷ ms) = greatest (max n m) ms

-- ---- the debt

abbrev pub names_other : (A : ℕ) → (named : Option ℕ) → Bool
names_other A None = false
names_other A (Some B) = not (eqb A B)

unfoldable pub other_named : (A : ℕ) → List ReplaceArgs → Bool
other_named A [] = false
other_named A (q ∷ qs) = names_other A q.instance || other_named A qs

-- ---- what follows of any run, with the accepted replaces qs, from the world w to v

pub record TailsKept (w : World) (qs : List ReplaceArgs) (v : World) : Type 0 where
  -- the depth, the top start and all older frames are the same
  pub same_depth : v.state.count ≡ w.state.count
  pub same_start : top_start v ≡ top_start w
  pub older_frames : (j : ℕ) → j < w.state.count - 1 → frame_at v j ≡ frame_at w j
  -- `len` is the largest of the old one and start + slots over the accepted replaces with nonzero slots
  pub largest_len : v.state.len ≡ greatest w.state.len (ends_of (top_start w) qs)

-- ---- and of the debt

-- the frame's debt is empty, and there is a current instance A
pub record NothingOwed (w : World) (A : ℕ) : Type 0 where
  pub no_debt : debt_of (top_frame w) ≡ None
  pub has_instance : w.state.current ≡ Some A

pub record DebtKept (w : World) (A : ℕ) (qs : List ReplaceArgs) (v : World) : Type 0 where
  -- the debt is empty exactly while no accepted replace has named an instance other than A
  pub empty_while : debt_of (top_frame v) ≡ None ↔ other_named A qs ≡ false
  -- and A exactly since one has
  pub owed_since : debt_of (top_frame v) ≡ Some A ↔ other_named A qs ≡ true
  -- from then on: whatever such events follow, also a replace that names A again
  pub owed_on : other_named A qs ≡ true → (fs : List Event) → AllTails fs → debt_of (top_frame (ran_through v fs)) ≡ Some A
  -- one accepted return then makes A current, if a caller's frame exists
  pub return_restores : 1 < w.state.count → (r : Request) (i : ℕ) → Gives r i → Accepted (answered v (Traced r))
      → (answered v (Traced r)).world.state.current ≡ Some A

-- ---- both, of the events es

abbrev pub TailsFollow : World → List Event → World → Type 0
TailsFollow w es v = TailsKept w (accepted_replaces w es) v × ((A : ℕ) → NothingOwed w A → DebtKept w A (accepted_replaces w es) v)

abbrev pub TailsTheorem : Type 0
TailsTheorem = (w : World) (es : List Event) → AllTails es → TailsFollow w es (ran_through w es)
