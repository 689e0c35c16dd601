-- Each public promise allows one outcome: one result, and one list of what the state and each buffer holds where it is lent to be written. Assumes nothing.
use mathlib.Core.Path.{sym, ap, ◌∙◌}
use Prim.Native.Nat.{ℕ}
use Rattle.choice.specs.Once.{Once, OnceSeen, beside}
use Rattle.face_place.specs.declared.answers.COffset.{COffset}
use Rattle.face_place.specs.declared.answers.CFrame.{CFrame}
use Rattle.face_place.specs.declared.answers.CHosted.{CHosted}
use Rattle.face_place.specs.declared.answers.CReturned.{CReturned}
use Rattle.face_place.specs.Placed.{Placed}
use Rattle.face_place.proofs.calls.cattlecleat_push_frame.Reads as pushes
use Rattle.face_place.proofs.calls.cattlecleat_pop_frame.Reads as pops
use Rattle.face_place.proofs.calls.cattlecleat_replace_frame.Reads as replaces
use Rattle.face_place.proofs.hosts.cattlecleat_prepare_host_frame.Reads as prepares
use Rattle.face_place.proofs.hosts.cattlecleat_return_prepare_host_frame.Reads as returns
use Rattle.face_place.proofs.hosts.cattlecleat_host_part_in_place.Reads as part
use Rattle.face_place.proofs.syncs.cattlecleat_sync_ip.Reads as syncs-ip
use Rattle.face_place.proofs.syncs.cattlecleat_restore_frame.Reads as restores
use Rattle.face_place.proofs.syncs.cattlecleat_set.Reads as sets-cell
use Rattle.face_place.proofs.syncs.cattlecleat_reset.Reads as resets
use Rattle.face_place.proofs.syncs.cattlecleat_sync_registers_in_place.Reads as syncs-registers

pub cattlecleat_push_frame_settled : OnceSeen pushes.Post (λ κ r e. beside r (beside e.0.now (beside e.1.0.now e.1.1.0.now)))
cattlecleat_push_frame_settled κ a r r' e e' p q =
    ap (λ (t : Placed COffset). beside t.told (beside t.state (beside t.words t.cells))) (p ∙ sym q)

pub cattlecleat_pop_frame_settled : OnceSeen pops.Post (λ κ r e. beside r e.0.now)
cattlecleat_pop_frame_settled κ a r r' e e' p q = ap (λ (t : Placed CFrame). beside t.told t.state) (p ∙ sym q)

pub cattlecleat_replace_frame_settled : OnceSeen replaces.Post (λ κ r e. beside r (beside e.0.now (beside e.1.0.now e.1.1.0.now)))
cattlecleat_replace_frame_settled κ a r r' e e' p q =
    ap (λ (t : Placed COffset). beside t.told (beside t.state (beside t.words t.cells))) (p ∙ sym q)

pub cattlecleat_prepare_host_frame_settled : OnceSeen prepares.Post (λ κ r e. beside r (beside e.0.now (beside e.1.0.now e.1.1.0.now)))
cattlecleat_prepare_host_frame_settled κ a r r' e e' p q =
    ap (λ (t : Placed CHosted). beside t.told (beside t.state (beside t.words t.cells))) (p ∙ sym q)

pub cattlecleat_return_prepare_host_frame_settled : OnceSeen returns.Post (λ κ r e. beside r (beside e.0.now e.1.1.0.now))
cattlecleat_return_prepare_host_frame_settled κ a r r' e e' p q =
    ap (λ (t : Placed CReturned). beside t.told (beside t.state t.cells)) (p ∙ sym q)

pub cattlecleat_host_part_in_place_settled : Once part.Post
cattlecleat_host_part_in_place_settled κ a r r' e e' p q = p ∙ sym q

pub cattlecleat_sync_ip_settled : OnceSeen syncs-ip.Post (λ κ r e. beside r e.1.0.now)
cattlecleat_sync_ip_settled κ a r r' e e' p q = ap (λ (t : Placed COffset). beside t.told t.words) (p ∙ sym q)

pub cattlecleat_restore_frame_settled : Once restores.Post
cattlecleat_restore_frame_settled κ a r r' e e' p q = ap (λ (t : Placed CFrame). t.told) (p ∙ sym q)

pub cattlecleat_set_settled : OnceSeen sets-cell.Post (λ κ r e. beside r e.1.1.0.now)
cattlecleat_set_settled κ a r r' e e' p q = ap (λ (t : Placed COffset). beside t.told t.cells) (p ∙ sym q)

pub cattlecleat_reset_settled : OnceSeen resets.Post (λ κ r e. beside r e.0.now)
cattlecleat_reset_settled κ a r r' e e' p q = ap (λ (t : Placed ℕ). beside t.told t.state) (p ∙ sym q)

pub cattlecleat_sync_registers_in_place_settled : OnceSeen syncs-registers.Post (λ κ r e. beside r e.0.now)
cattlecleat_sync_registers_in_place_settled κ a r r' e e' p q = ap (λ (t : Placed ℕ). beside t.told t.state) (p ∙ sym q)
