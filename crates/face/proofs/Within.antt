-- A part told by offset and length lies within the cells, and is the part that the host is lent. Assumes nothing.
use mathlib.Core.Path.{◌≡◌, refl, sym, ap, ◌∙◌, subst}
use mathlib.Core.Bool.{false}
use Prim.Native.Nat.{ℕ, ◌+◌, ◌≤◌, ◌<◌}
use native.Mathlib.Omega.{arith}
use native.Mathlib.Decide.{ℕ_discrete}
use lib.ListN.{length}
use borrow.Author.Tests.{ne_eqb}
use Rattle.choice.specs.Choose.{choose}
use Rattle.choice.specs.Tests.{Passed}
use Rattle.choice.proofs.Verdict.{Verdict, passes, fails, verdict, accepts, refuses, at_least_two}
use Rattle.cells.specs.declared.host.HostFrame.{HostFrame}
use Rattle.cells.specs.Host.{bad_host_frame, host_part}
use Rattle.cells.proofs.Hosts.{FrameSized, no_cells, sized, frame_sized, empty_part, length_part, place_start}
use Rattle.rules.specs.declared.Asked.TheVariants.{HostPart}
use Rattle.rules.specs.World.{World}
use Rattle.rules.specs.Broken.{broken_state}
use Rattle.rules.specs.Hosts.{part_tests, part_cells, part_place}
use Rattle.rules.proofs.GoodStates.{GoodState, good_state}
use Rattle.rules.proofs.Judgements.{numbered}
use Rattle.stack_hosts.proofs.Lendings.{lent_cells}
use Rattle.face.specs.declared.parts.CPart.{CPart}
use Rattle.face.specs.Parts.{part_with, part_refused, size_of, frame_lent, part_told, PartWithin, PartIsLent}
use Rattle.face.proofs.Lent.{none_lent, some_lent}

-- an accepted frame is lent nothing, or as many cells as its size
data Lends (frame : HostFrame) : Type 0 where
  nothing : frame_lent frame ≡ part_with 0 0 0 0 → size_of frame ≡ 0 → Lends frame
  something : frame_lent frame ≡ part_with 0 frame.start frame.params (size_of frame) → 0 < size_of frame → Lends frame

lends : (frame : HostFrame) → Lends frame
lends frame = by (ℕ_discrete (size_of frame) 0)
  where
    by : Dec (size_of frame ≡ 0) → Lends frame
    by (yes none) = nothing (sym (none_lent frame (size_of frame) refl none)) none
    by (no some) = something (sym (some_lent frame (size_of frame) refl (ne_eqb (size_of frame) 0 some))) (omega (arith, some))

-- ---- a frame that passed, in a good state
module _ (w : World) (frame : HostFrame) (good : broken_state w ≡ false) (fits : bad_host_frame frame w.state.len ≡ false) where
  state : GoodState w
  state = (good_state w).0 good

  end_within : 0 < size_of frame → frame.start + size_of frame ≤ length w.cells
  end_within some = by ((frame_sized frame w.state.len).0 fits)
    where
      by : FrameSized frame w.state.len → frame.start + size_of frame ≤ length w.cells
      by (no_cells p q) = absurd (omega (arith, some, p, q))
      by (sized p q r) = omega (arith, p, q, r, state.len_lent, state.cells_lent)

  cells_are : (n : ℕ) → n ≤ size_of frame → n ≡ length (part_cells w frame n)
  cells_are n h = by (ℕ_discrete n 0)
    where
      lent : host_part w.cells w.state.len frame n ≡ part_cells w frame n
      lent = lent_cells w frame (broken_state w) refl good n _ refl

      by : Dec (n ≡ 0) → n ≡ length (part_cells w frame n)
      by (yes none) = none ∙ ap length (sym (empty_part w.cells w.state.len frame) ∙ ap (host_part w.cells w.state.len frame) (sym none) ∙ lent)
      by (no some) =
          let ends = end_within (omega (arith, some, h)) in
          sym (length_part w.cells w.state.len frame n fits (omega (arith, ends, h))) ∙ ap length lent

  place_is : 0 < size_of frame → frame.start ≡ part_place w frame
  unfolding part_place choose
  place_is some = rw good (sym (place_start w.cells w.state.len frame fits (let ends = end_within some in omega (arith, ends, some))))

abbrev Within : World → CPart → Type 0
Within w p = (p.params ≤ p.results) × (p.offset + p.results ≤ length w.cells)

module _ (w : World) (frame : HostFrame) where
  told_passed : Passed (part_tests w frame) → part_told w frame ≡ frame_lent frame
  unfolding part_told
  told_passed p = accepts part_refused (frame_lent frame) (part_tests w frame) p

  passed : Passed (part_tests w frame) → (broken_state w ≡ false) × (bad_host_frame frame w.state.len ≡ false)
  unfolding part_tests
  passed p = (p.0, p.1.0)

  within_by : Verdict (part_tests w frame) → Within w (part_told w frame)
  unfolding part_told
  within_by (fails n p) = subst (Within w) (sym (refuses part_refused (frame_lent frame) p)) (omega arith, omega arith)
  within_by (passes p) = subst (Within w) (sym (told_passed p)) (by (lends frame))
    where
      by : Lends frame → Within w (frame_lent frame)
      by (nothing e none) = subst (Within w) (sym e) (omega arith, omega arith)
      by (something e some) =
          let ok = passed p in
          subst (Within w) (sym e) (omega arith, end_within w frame ok.0 ok.1 some)

pub part_within : PartWithin
part_within w frame = within_by w frame (verdict (part_tests w frame))

-- ---- an accepted part
abbrev Lent : World → HostFrame → CPart → Type 0
Lent w frame p =
    (p.params ≡ length (part_cells w frame frame.params))
    × ((p.results ≡ length (part_cells w frame (size_of frame))) × (0 < p.results → p.offset ≡ part_place w frame))

module _ (w : World) (frame : HostFrame) (p : Passed (part_tests w frame)) where
  ok : (broken_state w ≡ false) × (bad_host_frame frame w.state.len ≡ false)
  ok = passed w frame p

  lent_by : Lends frame → Lent w frame (frame_lent frame)
  lent_by (nothing e none) =
      let cells = cells_are w frame ok.0 ok.1 in
      subst (Lent w frame) (sym e)
      (sym (no_params none) ∙ cells frame.params (omega arith), (sym none ∙ cells (size_of frame) (omega arith), λ h. absurd (omega (arith, h))))
    where
      no_params : size_of frame ≡ 0 → frame.params ≡ 0
      no_params e = omega (arith, e)
  lent_by (something e some) =
      let cells = cells_are w frame ok.0 ok.1 in
      subst (Lent w frame) (sym e) (cells frame.params (omega arith), (cells (size_of frame) (omega arith), λ h. place_is w frame ok.0 ok.1 some))

pub part_is_lent : PartIsLent
unfolding part_told
part_is_lent w frame e = by (verdict (part_tests w frame))
  where
    by : Verdict (part_tests w frame) → Lent w frame (part_told w frame)
    by (fails n p) =
        let zero : n ≡ 0 = ap (λ (q : CPart). q.number) (sym (refuses part_refused (frame_lent frame) p)) ∙ e in
        let two = at_least_two p (numbered w (HostPart frame)) in
        absurd (omega (arith, zero, two))
    by (passes p) = subst (Lent w frame) (sym (told_passed w frame p)) (lent_by w frame p (lends frame))
