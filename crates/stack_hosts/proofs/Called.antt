-- From the judgement of a host part to the routine that is called over it: a refusal, or its result stored. Assumes nothing.
use Rattle.std.specs.Prelude.{Result, Ok, Err}
use Rattle.std.proofs.Common.{◌≡◌, sym, ◌∙◌}
use Rattle.cells.specs.declared.host.HostFrame.{HostFrame}
use Rattle.rules.specs.declared.Asked.TheVariants.{HostPart}
use Rattle.rules.specs.declared.Refusal.{Refusal}
use Rattle.rules.specs.declared.Room.{Room}
use Rattle.rules.specs.declared.Outcome.{Outcome}
use Rattle.rules.specs.World.{World}
use Rattle.rules.specs.Answers.{After, shown_outcome, refused_outcome, shown_judgement, judged}
use Rattle.rules.specs.Hosts.{part_tests, part_room}
use Rattle.rules.proofs.Judgements.{numbered, refused_settle, accepted_settle}
use Rattle.stack_hosts.specs.Routine.{sum_stored, host_called}

module _ (w : World) (f : HostFrame) (j : Result Room Refusal) (e : shown_judgement j ≡ judged (part_tests w f) (part_room w f)) where
  pub called_refused : (why : Refusal) (o : Outcome) → j ≡ Err why → o ≡ refused_outcome w.state why
      → shown_outcome o w.words w.cells ≡ host_called w f
  unfolding host_called
  called_refused = refused_settle w (sum_stored w f) (part_tests w f) (numbered w (HostPart f)) (part_room w f) j e

  pub called_done : (t : After) (r : Room) → j ≡ Ok r → t ≡ sum_stored w f → t ≡ host_called w f
  unfolding host_called
  called_done t r q h = h ∙ sym (accepted_settle w (sum_stored w f) (part_tests w f) (numbered w (HostPart f)) (part_room w f) j e r q).0
