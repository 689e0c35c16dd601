-- `stack::look::is_broken_next` meets its contract: the state is broken, or the newest frame is, or else the next decides. Assumes nothing.
use mathlib.Core.Path.{◌≡◌, sym, ◌∙◌}
use mathlib.Core.Bool.{Bool, true, false, ◌&&◌}
use lib.Dec.{ltb}
use Rattle.frames.specs.Rows.{broken_row}
use Rattle.rules.specs.World.{World, world_of, top_frame, next_frame}
use Rattle.rules.specs.Broken.{broken_state, broken_top, broken_next}
use Rattle.stack.proofs.look.is_broken_next.Goals as goal

module _ (w : World) where
  by_state : broken_state w ≡ true → true ≡ broken_next w
  unfolding broken_top broken_next
  by_state e = rw e

  module _ (good : broken_state w ≡ false) (t : Bool) (top : t ≡ (ltb 0 w.state.count && broken_row (top_frame w) w.state.len)) where
    by_top : t ≡ true → true ≡ broken_next w
    unfolding broken_top broken_next
    by_top h = rw (good, sym top ∙ h)

    by_next : t ≡ false → (n : Bool) → n ≡ (ltb 1 w.state.count && broken_row (next_frame w) w.state.len) → n ≡ broken_next w
    unfolding broken_top broken_next
    by_next h n next = rw (good, sym top ∙ h) next

pub returns-then-is_broken_state : goal.returns-then-is_broken_state
returns-then-is_broken_state c =
    by_state _ (sym c.is_broken_state.ensures ∙ c.if-is_broken_state.true)

pub returns-then-is_broken_at : goal.returns-then-is_broken_at
returns-then-is_broken_at c =
    by_top (world_of c.args.s c.args.words.now c.args.cells.now)
    (sym c.is_broken_state.ensures ∙ c.if-is_broken_state.false) _ c.is_broken_at.ensures c.if-is_broken_at.true

pub returns : goal.returns
returns c =
    by_next (world_of c.args.s c.args.words.now c.args.cells.now)
    (sym c.is_broken_state.ensures ∙ c.if-is_broken_state.false) _
    c.is_broken_at.ensures c.if-is_broken_at.false _ c.is_broken_at-2.ensures
