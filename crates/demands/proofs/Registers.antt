-- The registers, from what rules keeps of them. Assumes nothing.
use mathlib.Core.Path.{◌≡◌, ap, ◌∙◌}
use Rattle.regs.specs.declared.registers.Registers.{Registers}
use Rattle.rules.specs.declared.Request.TheVariants.{Restore}
use Rattle.rules.specs.declared.Asked.TheVariants.{Traced, SyncRegs}
use Rattle.rules.specs.World.{World}
use Rattle.rules.specs.Answers.{After}
use Rattle.rules.specs.Syncs.{restored, registers_stored}
use Rattle.rules.specs.Returning.{Accepted}
use Rattle.rules.proofs.Kept.{registers_kept}
use Rattle.demands.specs.Heard.{Heard}
use Rattle.demands.specs.Registers.{RegistersBack, RegistersRead}
use Rattle.demands.proofs.Answers.{requests_follow}
use Rattle.demands.proofs.Links.{history_ran}

stored_then : (w : World) (regs : Registers) (t : After) → Heard w (SyncRegs regs) t → Accepted t → t.world.state.regs ≡ regs
unfolding registers_stored
stored_then w regs t heard accepted = ap (λ (o : After). o.world.state.regs) (requests_follow w (SyncRegs regs) t heard accepted)

restored_then : (v : World) (back : After) → Heard v (Traced Restore) back → Accepted back → back.shown.values.regs ≡ v.state.regs
unfolding restored
restored_then v back heard accepted = ap (λ (o : After). o.shown.values.regs) (requests_follow v (Traced Restore) back heard accepted)

pub registers_handed_back : RegistersBack
registers_handed_back w regs t heard accepted es v history kept =
    let same = ap (λ (u : World). u.state.regs) (history_ran history) ∙ registers_kept t.world es kept ∙ stored_then w regs t heard accepted in
    (same, λ back heard accepted. restored_then v back heard accepted ∙ same)

pub registers_read : RegistersRead
registers_read = (λ κ a r e p. p, λ κ a r e p. p, λ κ a r e p. p, λ κ a r e p. p)
