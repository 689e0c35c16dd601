-- Each public promise allows one outcome: one result, and one list of what each lent buffer holds. Assumes nothing.
use mathlib.Core.Path.{sym, ap, ◌∙◌}
use Rattle.choice.specs.Once.{OnceSeen, beside}
use Rattle.face_replay.specs.Runs.{RunTold}
use Rattle.face_replay.specs.declared.tapes.CFed.{CFed}
use Rattle.face_replay.specs.Tapes.{TapeTold, FedTold}
use Rattle.face_replay.proofs.traces.cattlecleat_replay.Reads as replays
use Rattle.face_replay.proofs.tapes.cattlecleat_feed.Reads as feeds
use Rattle.face_replay.proofs.tapes.cattlecleat_finish.Reads as finishes

pub cattlecleat_replay_settled : OnceSeen replays.Post (λ κ r e. beside r (beside e.1.0.now e.1.1.0.now))
cattlecleat_replay_settled κ a r r' e e' p q = ap (λ (t : RunTold). beside t.run (beside t.words t.cells)) (p ∙ sym q)

abbrev fed_from : FedTold → CFed
fed_from t = record { number = t.number; tape = t.told.tape }

pub cattlecleat_feed_settled : OnceSeen feeds.Post (λ κ r e. beside r (beside e.1.0.now e.1.1.0.now))
cattlecleat_feed_settled κ a r r' e e' p q = ap (λ (t : FedTold). beside (fed_from t) (beside t.told.words t.told.cells)) (p ∙ sym q)

pub cattlecleat_finish_settled : OnceSeen finishes.Post (λ κ r e. beside r (beside e.1.0.now e.1.1.0.now))
cattlecleat_finish_settled κ a r r' e e' p q = ap (λ (t : TapeTold). beside t.tape (beside t.words t.cells)) (p ∙ sym q)
