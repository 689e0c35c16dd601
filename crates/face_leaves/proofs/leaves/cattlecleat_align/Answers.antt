-- `face_leaves::leaves::cattlecleat_align` meets its contract. Assumes nothing.
use Rattle.std.proofs.Common.{sym, ap, ◌∙◌}
use Rattle.face_leaves.specs.Addresses.{aligned_told}
use Rattle.regs.specs.Align.{shown_aligned}
use Rattle.face_leaves.proofs.leaves.cattlecleat_align.Goals as goal

pub returns-in-Ok : goal.returns-in-Ok
returns-in-Ok c =
    ap (λ a. aligned_told (shown_aligned a)) (sym c.in-Ok.is) ∙ ap aligned_told c.align_relative_to.ensures

pub returns-in-Err : goal.returns-in-Err
returns-in-Err c =
    rw c.into.ensures
    (ap (λ a. aligned_told (shown_aligned a)) (sym c.in-Err.is) ∙ ap aligned_told c.align_relative_to.ensures)
