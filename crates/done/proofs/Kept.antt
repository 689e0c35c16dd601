-- What a refused call leaves, and that a reason put in is the one that comes out: of any answers that the functions' promises allow.
-- Assumes nothing.
use mathlib.Core.Path.{◌≡◌, sym, ap, ◌∙◌}
use Rattle.std.specs.Prelude.{Ok}
use Rattle.choice.specs.Choose.{choose}
use Rattle.choice.specs.Once.{beside}
use Rattle.done.specs.declared.DoneReason.{DoneReason}
use Rattle.done.specs.declared.DoneSlot.{DoneSlot}
use Rattle.done.specs.Done.{no_reason, holds_reason, ShownFill, fill_tests, filled, ShownTake, take_tests, taken}
use Rattle.done.proofs.Settled.{shown_take_once}
use Rattle.done.proofs.DoneSlot.done_with.Reads as done-with
use Rattle.done.proofs.DoneSlot.take_done_reason.Reads as take-done-reason

abbrev slot_of_fill : ShownFill → DoneSlot
slot_of_fill s = s.slot

-- 12: the old reason stays
pub kept_12 : (κ : _) (a : _) (r : _) (e : _) → done-with.Post κ a r e → (old : DoneReason) → a.0 ≡ holds_reason old → r.1 ≡ a.0
unfolding choose fill_tests filled
kept_12 κ a r e p old held = ap slot_of_fill (p ∙ ap (λ s. filled s a.1.0) held) ∙ sym held

-- 13: the slot stays empty
pub kept_13 : (κ : _) (a : _) (r : _) (e : _) → take-done-reason.Post κ a r e → a.0 ≡ no_reason → r.1 ≡ a.0
unfolding choose take_tests taken
kept_13 κ a r e p empty = ap (λ (s : ShownTake). s.slot) (p ∙ ap taken empty) ∙ sym empty

-- a reason put into an empty slot is taken out of it, and leaves it empty
pub put_and_taken : (κ : _) (a : _) (r : _) (e : _) → done-with.Post κ a r e → (κ' : _) (b : _) (t : _) (f : _) → take-done-reason.Post κ' b t f
    → a.0 ≡ no_reason → b.0 ≡ r.1 → t ≡ beside (Ok a.1.0) no_reason
unfolding choose fill_tests filled take_tests taken
put_and_taken κ a r e p κ' b t f q empty next =
    shown_take_once t (beside (Ok a.1.0) no_reason) (q ∙ ap taken (next ∙ ap slot_of_fill (p ∙ ap (λ s. filled s a.1.0) empty)))
