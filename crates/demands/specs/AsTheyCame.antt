-- Demand 1, over the C face: 10 for numbers that say no request; and a refusal hands the state back number for number, with both buffers as they were.
--     NumbersAsked         10 exactly where the kind is none of the nine
--     StatesAsTheyCame     of a request, and of a register sync, that is refused
--     WordsAsTheyCame      of a request in place: the state, and whatever is lent to be written, holds what it held
--     RunsAsTheyCame       of a trace of which no record is accepted
--     TapesAsTheyCame      of a block that is refused, and of blocks and ends after a stop: the whole tape, with both buffers (document 02, T-01)
use Rattle.std.specs.Prelude.{◌≡◌, true, false, ◌↔◌, ◌⊎◌, ℕ, ◌≤◌, Err}
use Rattle.regs.specs.Convert.{truth_of}
use Rattle.record.specs.Reading.{bad_record}
use Rattle.request.specs.Entries.{entries_in}
use Rattle.face.specs.Requests.{request_from}
use Rattle.face_ask.specs.declared.answers.CAnswer.{CAnswer}
use Rattle.face_place.specs.declared.answers.COffset.{COffset}
use Rattle.face_place.specs.declared.answers.CFrame.{CFrame}
use Rattle.face_place.specs.declared.answers.CHosted.{CHosted}
use Rattle.face_place.specs.declared.answers.CReturned.{CReturned}
use Rattle.face_place.proofs.cattlecleat_push_frame.Reads as c-push-frame
use Rattle.face_place.proofs.cattlecleat_pop_frame.Reads as c-pop-frame
use Rattle.face_place.proofs.cattlecleat_replace_frame.Reads as c-replace-frame
use Rattle.face_place.proofs.cattlecleat_prepare_host_frame.Reads as c-prepare-host-frame
use Rattle.face_place.proofs.cattlecleat_return_prepare_host_frame.Reads as c-return-prepare-host-frame
use Rattle.face_place.proofs.cattlecleat_sync_ip.Reads as c-sync-ip
use Rattle.face_place.proofs.cattlecleat_set.Reads as c-set
use Rattle.face_place.proofs.cattlecleat_reset.Reads as c-reset
use Rattle.face_place.proofs.cattlecleat_sync_registers_in_place.Reads as c-sync-registers-in-place
use Rattle.face_ask.proofs.cattlecleat_ask.Reads as c-ask
use Rattle.face_ask.proofs.cattlecleat_sync_registers.Reads as c-sync-registers
use Rattle.face_replay.specs.declared.traces.CRun.{CRun}
use Rattle.face_replay.specs.Runs.{running_from, any_accepted}
use Rattle.face_replay.specs.declared.tapes.CTape.{CTape}
use Rattle.face_replay.specs.declared.tapes.CFed.{CFed}
use Rattle.face_replay.proofs.cattlecleat_replay.Reads as c-replay
use Rattle.face_replay.proofs.cattlecleat_feed.Reads as c-feed
use Rattle.face_replay.proofs.cattlecleat_finish.Reads as c-finish

abbrev pub NumbersAsked : Type 0
NumbersAsked = (κ : _) (a : _) (r : CAnswer) (e : _) → c-ask.Post κ a r e → r.number ≡ 10 ↔ request_from a.1.1.1.0 ≡ Err bad_record

-- a register sync is lent both buffers to read
abbrev pub StatesAsTheyCame : Type 0
StatesAsTheyCame =
    ((κ : _) (a : _) (r : CAnswer) (e : _) → c-ask.Post κ a r e → 2 ≤ r.number
    → (r.state ≡ a.0) × (e.1.0.now ≡ a.1.0.now) × (e.1.1.0.now ≡ a.1.1.0.now))
    × ((κ : _) (a : _) (r : CAnswer) (e : _) → c-sync-registers.Post κ a r e → 2 ≤ r.number → r.state ≡ a.0)

abbrev pub WordsAsTheyCame : Type 0
WordsAsTheyCame =
    ((κ : _) (a : _) (r : COffset) (e : _) → c-push-frame.Post κ a r e → 2 ≤ r.number
    → (e.0.now ≡ a.0.now) × (e.1.0.now ≡ a.1.0.now) × (e.1.1.0.now ≡ a.1.1.0.now))
    × ((κ : _) (a : _) (r : CFrame) (e : _) → c-pop-frame.Post κ a r e → 2 ≤ r.number → e.0.now ≡ a.0.now)
    × ((κ : _) (a : _) (r : COffset) (e : _) → c-replace-frame.Post κ a r e → 2 ≤ r.number
    → (e.0.now ≡ a.0.now) × (e.1.0.now ≡ a.1.0.now) × (e.1.1.0.now ≡ a.1.1.0.now))
    × ((κ : _) (a : _) (r : CHosted) (e : _) → c-prepare-host-frame.Post κ a r e → 2 ≤ r.number
    → (e.0.now ≡ a.0.now) × (e.1.0.now ≡ a.1.0.now) × (e.1.1.0.now ≡ a.1.1.0.now))
    × ((κ : _) (a : _) (r : CReturned) (e : _) → c-return-prepare-host-frame.Post κ a r e → 2 ≤ r.number
    → (e.0.now ≡ a.0.now) × (e.1.1.0.now ≡ a.1.1.0.now))
    × ((κ : _) (a : _) (r : COffset) (e : _) → c-sync-ip.Post κ a r e → 2 ≤ r.number → e.1.0.now ≡ a.1.0.now)
    × ((κ : _) (a : _) (r : COffset) (e : _) → c-set.Post κ a r e → 2 ≤ r.number → e.1.1.0.now ≡ a.1.1.0.now)
    × ((κ : _) (a : _) (r : ℕ) (e : _) → c-reset.Post κ a r e → 2 ≤ r → e.0.now ≡ a.0.now)
    × ((κ : _) (a : _) (r : ℕ) (e : _) → c-sync-registers-in-place.Post κ a r e → 2 ≤ r → e.0.now ≡ a.0.now)

abbrev pub RunsAsTheyCame : Type 0
RunsAsTheyCame =
    (κ : _) (a : _) (r : CRun) (e : _) → c-replay.Post κ a r e
    → any_accepted (running_from a.0 a.1.0.now a.1.1.0.now) (entries_in a.1.1.1.0.now) ≡ false
    → (r.state ≡ a.0.state) × (e.1.0.now ≡ a.1.0.now) × (e.1.1.0.now ≡ a.1.1.0.now)

abbrev pub TapesAsTheyCame : Type 0
TapesAsTheyCame =
    ((κ : _) (a : _) (r : CFed) (e : _) → c-feed.Post κ a r e → (2 ≤ r.number) ⊎ (truth_of a.0.run.stopflag ≡ true)
    → (r.tape ≡ a.0) × (e.1.0.now ≡ a.1.0.now) × (e.1.1.0.now ≡ a.1.1.0.now))
    × ((κ : _) (a : _) (r : CTape) (e : _) → c-finish.Post κ a r e → truth_of a.0.run.stopflag ≡ true
    → (r ≡ a.0) × (e.1.0.now ≡ a.1.0.now) × (e.1.1.0.now ≡ a.1.1.0.now))
