-- Each public promise allows one outcome: one result, and one list of what each buffer holds where it is lent to be written. Assumes nothing.
use Rattle.std.proofs.Common.{sym, ap, ◌∙◌}
use Rattle.choice.specs.Once.{Once, OnceSeen, beside}
use Rattle.record.specs.Reading.{ShownWrite}
use Rattle.face_leaves.proofs.leaves.cattlecleat_to_register.Reads as to-register
use Rattle.face_leaves.proofs.leaves.cattlecleat_from_register.Reads as from-register
use Rattle.face_leaves.proofs.leaves.cattlecleat_align.Reads as aligns
use Rattle.face_leaves.proofs.slot.cattlecleat_done_with.Reads as fills
use Rattle.face_leaves.proofs.slot.cattlecleat_take_done_reason.Reads as takes
use Rattle.face_leaves.proofs.slot.DoneReasonFromCReason.from.Reads as reason-in
use Rattle.face_leaves.proofs.slot.CReasonFromDoneReason.from.Reads as reason-out
use Rattle.face_leaves.proofs.slot.DoneSlotFromCReason.from.Reads as slot-in
use Rattle.face_leaves.proofs.slot.CReasonFromDoneSlot.from.Reads as slot-out
use Rattle.face_leaves.proofs.registers.cattlecleat_read_registers.Reads as registers
use Rattle.face_leaves.proofs.registers.cattlecleat_put_ireg.Reads as puts-ireg
use Rattle.face_leaves.proofs.registers.cattlecleat_put_freg32.Reads as puts-freg32
use Rattle.face_leaves.proofs.registers.cattlecleat_put_freg64.Reads as puts-freg64
use Rattle.face_leaves.proofs.registers.cattlecleat_put_registers.Reads as puts-all
use Rattle.face_leaves.proofs.registers.cattlecleat_zero_registers.Reads as zeroes
use Rattle.face_leaves.proofs.records.cattlecleat_read_record.Reads as reads
use Rattle.face_leaves.proofs.records.cattlecleat_write_record.Reads as writes

pub cattlecleat_to_register_settled : Once to-register.Post
cattlecleat_to_register_settled κ a r r' e e' p q = p ∙ sym q

pub cattlecleat_from_register_settled : Once from-register.Post
cattlecleat_from_register_settled κ a r r' e e' p q = p ∙ sym q

pub cattlecleat_align_settled : Once aligns.Post
cattlecleat_align_settled κ a r r' e e' p q = p ∙ sym q

pub cattlecleat_done_with_settled : Once fills.Post
cattlecleat_done_with_settled κ a r r' e e' p q = p ∙ sym q

pub cattlecleat_take_done_reason_settled : Once takes.Post
cattlecleat_take_done_reason_settled κ a r r' e e' p q = p ∙ sym q

pub done_reason_from_c_reason_from_settled : Once reason-in.Post
done_reason_from_c_reason_from_settled κ a r r' e e' p q = p ∙ sym q

pub c_reason_from_done_reason_from_settled : Once reason-out.Post
c_reason_from_done_reason_from_settled κ a r r' e e' p q = p ∙ sym q

pub done_slot_from_c_reason_from_settled : Once slot-in.Post
done_slot_from_c_reason_from_settled κ a r r' e e' p q = p ∙ sym q

pub c_reason_from_done_slot_from_settled : Once slot-out.Post
c_reason_from_done_slot_from_settled κ a r r' e e' p q = p ∙ sym q

pub cattlecleat_read_registers_settled : Once registers.Post
cattlecleat_read_registers_settled κ a r r' e e' p q = p ∙ sym q

-- in place
pub cattlecleat_put_ireg_settled : OnceSeen puts-ireg.Post (λ κ r e. e.0.now)
cattlecleat_put_ireg_settled κ a r r' e e' p q = p ∙ sym q

pub cattlecleat_put_freg32_settled : OnceSeen puts-freg32.Post (λ κ r e. e.0.now)
cattlecleat_put_freg32_settled κ a r r' e e' p q = p ∙ sym q

pub cattlecleat_put_freg64_settled : OnceSeen puts-freg64.Post (λ κ r e. e.0.now)
cattlecleat_put_freg64_settled κ a r r' e e' p q = p ∙ sym q

pub cattlecleat_put_registers_settled : OnceSeen puts-all.Post (λ κ r e. e.0.now)
cattlecleat_put_registers_settled κ a r r' e e' p q = p ∙ sym q

pub cattlecleat_zero_registers_settled : OnceSeen zeroes.Post (λ κ r e. e.0.now)
cattlecleat_zero_registers_settled κ a r r' e e' p q = p ∙ sym q

pub cattlecleat_read_record_settled : Once reads.Post
cattlecleat_read_record_settled κ a r r' e e' p q = p ∙ sym q

pub cattlecleat_write_record_settled : OnceSeen writes.Post (λ κ r e. beside r e.0.now)
cattlecleat_write_record_settled κ a r r' e e' p q = ap (λ (t : ShownWrite). beside t.number t.bytes) (p ∙ sym q)
