-- A host's part by offset and length: what the code tells of a frame, and what a judgement comes to. Assumes nothing.
use Rattle.std.specs.Prelude.{Result, Ok, Err}
use mathlib.Core.Path.{◌≡◌, refl, sym, ap, ◌∙◌}
use mathlib.Core.Bool.{false}
use mathlib.Core.List.{List}
use Prim.Native.Nat.{ℕ}
use lib.Dec.{eqb}
use Rattle.choice.specs.Choose.{choose}
use Rattle.cells.specs.declared.host.HostFrame.{HostFrame}
use Rattle.rules.specs.declared.State.{State}
use Rattle.rules.specs.declared.Refusal.{Refusal}
use Rattle.rules.specs.declared.Room.{Room}
use Rattle.rules.specs.declared.Asked.TheVariants.{HostPart}
use Rattle.rules.specs.World.{World, world_of}
use Rattle.rules.specs.Answers.{refusal_number, shown_judgement, judged}
use Rattle.rules.specs.Hosts.{part_tests, part_room}
use Rattle.rules.proofs.Judgements.{numbered, judged_refused, judged_accepted}
use Rattle.face.specs.declared.parts.CPart.{CPart}
use Rattle.face.specs.Parts.{part_with, part_refused, size_of, frame_lent, part_told}

pub none_lent : (frame : HostFrame) (n : ℕ) → n ≡ size_of frame → n ≡ 0 → part_with 0 0 0 0 ≡ frame_lent frame
unfolding choose frame_lent
none_lent frame n size none = rw (sym size ∙ none) refl

pub some_lent : (frame : HostFrame) (n : ℕ) → n ≡ size_of frame → eqb n 0 ≡ false → part_with 0 frame.start frame.params n ≡ frame_lent frame
unfolding choose frame_lent
some_lent frame n size some =
    ap (part_with 0 frame.start frame.params) size
    ∙ ap (λ b. choose b (part_with 0 0 0 0) (part_with 0 frame.start frame.params (size_of frame)))
    (sym (ap (λ x. eqb x 0) (sym size) ∙ some))

module _ (w : World) (frame : HostFrame) where
  pub told_refused : (why : Refusal) → shown_judgement (Err why) ≡ judged (part_tests w frame) (part_room w frame)
      → part_refused (refusal_number why) ≡ part_told w frame
  unfolding part_told
  told_refused why e = sym (judged_refused part_refused (frame_lent frame) (part_tests w frame) (numbered w (HostPart frame)) (part_room w frame) why e)

  pub told_accepted : (r : Room) → shown_judgement (Ok r) ≡ judged (part_tests w frame) (part_room w frame) → frame_lent frame ≡ part_told w frame
  unfolding part_told
  told_accepted r e = sym (judged_accepted part_refused (frame_lent frame) (part_tests w frame) (numbered w (HostPart frame)) (part_room w frame) r e).0

-- with the judgement known
module _ (w : World) (frame : HostFrame) (j : Result Room Refusal) (shows : shown_judgement j ≡ judged (part_tests w frame) (part_room w frame)) (p : CPart) where
  pub refused_told : (why : Refusal) (n : ℕ) → j ≡ Err why → n ≡ refusal_number why → p ≡ part_with n 0 0 0 → p ≡ part_told w frame
  refused_told why n refuses numbers tells = tells ∙ ap part_refused numbers ∙ told_refused w frame why (ap shown_judgement (sym refuses) ∙ shows)

  pub accepted_told : (r : Room) → j ≡ Ok r → p ≡ frame_lent frame → p ≡ part_told w frame
  accepted_told r accepts tells = tells ∙ told_accepted w frame r (ap shown_judgement (sym accepts) ∙ shows)

-- ---- of a state and a frame that numbers say
pub part_told_at : (s s' : State) → s ≡ s' → (words cells : List ℕ) (f f' : HostFrame) → f ≡ f'
    → part_told (world_of s words cells) f ≡ part_told (world_of s' words cells) f'
part_told_at s s' read words cells f f' meant = λ i. part_told (world_of (read i) words cells) (meant i)
