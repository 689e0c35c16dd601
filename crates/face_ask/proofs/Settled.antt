-- Each public promise allows one outcome: one result, and one list of what each buffer holds where it is lent to be written. Assumes nothing.
use mathlib.Core.Path.{sym, ap, ◌∙◌}
use Rattle.choice.specs.Once.{Once, OnceSeen, beside}
use Rattle.face_ask.specs.Told.{ToldAnswer}
use Rattle.face_ask.proofs.asking.cattlecleat_open.Reads as opens
use Rattle.face_ask.proofs.asking.cattlecleat_ask.Reads as asks
use Rattle.face_ask.proofs.asking.cattlecleat_sync_registers.Reads as syncs
use Rattle.face_ask.proofs.parts.cattlecleat_host_part.Reads as part

pub cattlecleat_open_settled : Once opens.Post
cattlecleat_open_settled κ a r r' e e' p q = p ∙ sym q

pub cattlecleat_ask_settled : OnceSeen asks.Post (λ κ r e. beside r (beside e.1.0.now e.1.1.0.now))
cattlecleat_ask_settled κ a r r' e e' p q = ap (λ (t : ToldAnswer). beside t.answer (beside t.words t.cells)) (p ∙ sym q)

pub cattlecleat_sync_registers_settled : Once syncs.Post
cattlecleat_sync_registers_settled κ a r r' e e' p q = ap (λ (t : ToldAnswer). t.answer) (p ∙ sym q)

pub cattlecleat_host_part_settled : Once part.Post
cattlecleat_host_part_settled κ a r r' e e' p q = p ∙ sym q
