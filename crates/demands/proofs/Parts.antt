-- The parts that `host_results` hands out lie inside the host's frame that it was asked with: one with cells begins at the frame's start and ends no later
-- than the frame. What the routine of `call_host` writes lies there too. Assumes nothing.
use mathlib.Core.Path.{◌≡◌, refl, sym, ap, subst, ◌∙◌}
use mathlib.Core.Bool.{Bool, true, false}
use mathlib.Core.List.{List, []}
use Prim.Native.Nat.{ℕ, ◌+◌, ◌≤◌, ◌<◌}
use native.Mathlib.Omega.{arith}
use lib.ListN.{length, take, length-take}
use Rattle.choice.specs.Choose.{choose}
use Rattle.choice.specs.Tests.{Passed}
use Rattle.choice.proofs.Verdict.{Verdict, passes, fails, verdict, accepts, refuses}
use Rattle.cells.specs.declared.host.HostFrame.{HostFrame}
use Rattle.cells.specs.Host.{host_size, host_part, cell_place}
use Rattle.cells.proofs.Hosts.{FrameSized, no_cells, sized, frame_sized, results_inside}
use Rattle.rules.specs.World.{World, world_of}
use Rattle.rules.specs.Answers.{After}
use Rattle.rules.specs.Broken.{broken_state}
use Rattle.rules.specs.Hosts.{part_tests, part_cells, part_place}
use Rattle.rules.specs.Returning.{Inside}
use Rattle.rules.proofs.Confined.{handed_out_rises}
use Rattle.face.specs.declared.parts.CPart.{CPart}
use Rattle.face.specs.Parts.{part_told}
use Rattle.face.proofs.Within.{part_within, part_is_lent}
use Rattle.face_place.specs.Args.{host_frame_held}
use Rattle.face_place.specs.Placed.{world_held}
use Rattle.face_place.proofs.Said.{parts_said}
use Rattle.demands.specs.Heard.{world_said, routine_writes}
use Rattle.demands.specs.Parts.{PartsInside, RoutineInside, ToldWithin, PartsTold}
use Rattle.demands.proofs.Heard.{heard_answered}

-- where it has cells
abbrev LentWithin : World → HostFrame → Type 0
LentWithin w f = (part_place w f ≡ f.start) × (f.start + length (part_cells w f (host_size f.params f.results)) ≤ f.end)

lent_within : (w : World) (f : HostFrame) → 0 < length (part_cells w f (host_size f.params f.results)) → LentWithin w f
unfolding part_cells part_place choose
lent_within w f some = by (broken_state w) refl some
  where
    by : (t : Bool) → broken_state w ≡ t → 0 < length (choose t [] (host_part w.cells w.state.len f (host_size f.params f.results)))
        → LentWithin w f
    by true e none = absurd (omega arith)
    by false e more = rw e (results_inside w.cells w.state.len f more)

pub parts_inside : PartsInside
parts_inside κ a r e p values some fits =
    let w = world_of a.0 a.1.0.now a.1.1.0.now in
    let f = a.1.1.1.0 in
    let size = ap length p.1 in
    let within = lent_within w f (omega arith) in
    let end = within.1 in
    (p.0 ∙ ap (cell_place a.1.1.0.ref_ptr) within.0, (omega arith, omega arith))

-- ---- the routine
fits_size : (w : World) (f : HostFrame) (vs : List ℕ) → Passed (part_tests w f) → f.start ≤ f.end
    → f.start + length (take (host_size f.params f.results) vs) ≤ f.end
unfolding part_tests
fits_size w f vs p rises =
    by ((frame_sized f w.state.len).0 p.1.0)
  where
    by : FrameSized f w.state.len → f.start + length (take (host_size f.params f.results) vs) ≤ f.end
    by (no_cells a b) = let size = length-take (host_size f.params f.results) vs in omega arith
    by (sized a b c) = let size = length-take (host_size f.params f.results) vs in omega arith

routine_fits : (w : World) (f : HostFrame) → f.start ≤ f.end → Inside f.start (routine_writes w f) f
unfolding routine_writes
routine_fits w f rises = (omega arith, by (verdict (part_tests w f)))
  where
    by : Verdict (part_tests w f) → f.start + length (routine_writes w f) ≤ f.end
    by (passes p) = rw (accepts (λ n. []) _ (part_tests w f) p) (fits_size w f _ p rises)
    by (fails n p) = rw (refuses (λ n. []) _ p) (omega arith)

pub routine_inside : RoutineInside
routine_inside u a t heard w =
    routine_fits w t.shown.values.host
    (subst (λ (o : After). o.shown.values.host.start ≤ o.shown.values.host.end) (sym (heard_answered heard)) (handed_out_rises u a))

-- ---- over the C face
told_within : (w : World) (f : HostFrame) (r : CPart) → r ≡ part_told w f → ToldWithin w f r
told_within w f r p =
    let within = part_within w f in
    subst (ToldWithin w f) (sym p)
    (within.0, within.1, λ zero. ((part_is_lent w f zero).0, (part_is_lent w f zero).1.0, (part_is_lent w f zero).1.1))

pub parts_told : PartsTold
parts_told = (
  λ κ a r e p. told_within (world_said a.0 a.1.0.now a.1.1.0.now) a.1.1.1.0 r p,
  λ κ a r e p regs.
      let f = host_frame_held a.1.1.1.0.now in
      told_within (world_held a.0.now regs a.1.0.now a.1.1.0.now) f r
      (p ∙ parts_said a.0.now a.1.0.now a.1.1.0.now regs f),
)
