-- One record as the loop has it, by what was found before it. Assumes nothing.
--     limits_kept                     no step changes a limit of the state
--     refused_says, arm_bad           a record that is refused, and one that reads badly
--     arm_refused                     a request that is judged, and refused
--     arm_stops, arm_goes             an accepted one: the fuel does not cover it, or it is run
use Rattle.std.specs.Prelude.{Ok, Err, Result}
use Rattle.std.proofs.Common.{◌≡◌, ℕ, ◌+◌, ◌-◌, ◌<◌, ◌≤◌, Bool, true, false, ltb, List, refl, ap, ◌∙◌}
use Rattle.choice.specs.Choose.{choose}
use Rattle.record.specs.Reading.{bad_record}
use Rattle.rules.specs.declared.State.{State}
use Rattle.rules.specs.declared.Request.{Request}
use Rattle.rules.specs.declared.Request.TheVariants.{Push, Pop, Replace, Host, ReturnHost, Sync, Restore, Reset, Set}
use Rattle.rules.specs.declared.Asked.TheVariants.{Traced}
use Rattle.rules.specs.declared.Refusal.{Refusal}
use Rattle.rules.specs.declared.Room.{Room}
use Rattle.rules.specs.declared.Outcome.{Outcome}
use Rattle.rules.specs.World.{World, world_of}
use Rattle.rules.specs.Answers.{refusal_number, After, refused_with, shown_answer, shown_outcome, shown_judgement, judged}
use Rattle.rules.specs.Calls.{pushed, replaced}
use Rattle.rules.specs.Returns.{popped}
use Rattle.rules.specs.Hosts.{hosted, returned_host}
use Rattle.rules.specs.Syncs.{synced, restored, emptied, cell_set}
use Rattle.rules.specs.Rules.{tests_of, room_for, effect_in}
use Rattle.request.specs.Requests.{Decoded}
use Rattle.replay.specs.declared.flat.Fixed.{Fixed}
use Rattle.replay.specs.declared.flat.Moving.{Moving}
use Rattle.replay.specs.declared.flat.Went.{Went}
use Rattle.replay.specs.Costs.{work_of}
use Rattle.replay.specs.Running.{Running, nothing_ran, stopped_before, ran_with, went_on, shown_ran, ran_at, ran_on}
use Rattle.replay.specs.Packing.{state_again, run_again, running_again, ran_again, went_shown, went_on_with, went_stopped, went_refused}
use Rattle.replay.proofs.Packing.{SameLimits, went_says}
use Rattle.replay.proofs.Records.{ran_stops, ran_goes, ran_refused, ran_accepted, ran_bad}

pub limits_kept : (w : World) (q : Request) (room : Room) → SameLimits (effect_in w (Traced q) room).world.state w.state
unfolding pushed popped replaced hosted returned_host synced restored emptied cell_set
limits_kept w (Push q) room = (refl, refl, refl, refl)
limits_kept w (Pop instance) room = (refl, refl, refl, refl)
limits_kept w (Replace q) room = (refl, refl, refl, refl)
limits_kept w (Host q) room = (refl, refl, refl, refl)
limits_kept w (ReturnHost q) room = (refl, refl, refl, refl)
limits_kept w (Sync ip) room = (refl, refl, refl, refl)
limits_kept w Restore room = (refl, refl, refl, refl)
limits_kept w Reset room = (refl, refl, refl, refl)
limits_kept w (Set head cell) room = (refl, refl, refl, refl)

module _ (f : Fixed) (m : Moving) (words cells : List ℕ) where
  abbrev at_first : World
  at_first = world_of (state_again f m) words cells

  abbrev running : Running
  running = running_again f m words cells

  -- ---- refused; d is what the record says
  refused_says : (number : ℕ) → went_shown f (went_refused f m number) words cells ≡ ran_at running (refused_with at_first number) 1
  unfolding went_shown running_again ran_again run_again state_again went_stopped ran_at went_refused choose
  refused_says number = by (ltb (f.fuel - m.spent) 1)
    where
      by : (short : Bool)
          → shown_ran (ran_again f (choose short (went_stopped m 1) (went_on_with m (state_again f m) (m.spent + 1) number 0))) words cells
          ≡ choose short (nothing_ran (stopped_before running 1)) (ran_with (went_on running at_first 1) number 0)
      by true = refl
      by false = ap (λ x. shown_ran x words cells) (went_says f m (state_again f m) (refl, refl, refl, refl) (m.spent + 1) number 0)

  pub arm_bad : (x : Went) → x ≡ went_refused f m 10 → (d : Decoded) → Err bad_record ≡ d → went_shown f x words cells ≡ ran_on running d
  unfolding running_again run_again
  arm_bad x e d says = ap (λ x. went_shown f x words cells) e ∙ refused_says 10 ∙ ran_bad running ∙ ap (ran_on running) says

  -- ---- judged; s is the state that the judgement was given
  module _ (q : Request) (s : State) (same : s ≡ state_again f m) (j : Result Room Refusal)
      (e : shown_judgement j ≡ judged (tests_of (world_of s words cells) (Traced q)) (room_for (world_of s words cells) (Traced q)))
      (d : Decoded) (says : Ok q ≡ d)
    where
      judged_so : shown_judgement j ≡ judged (tests_of at_first (Traced q)) (room_for at_first (Traced q))
      judged_so = e ∙ ap (λ (s : State). judged (tests_of (world_of s words cells) (Traced q)) (room_for (world_of s words cells) (Traced q))) same

      pub arm_refused : (why : Refusal) → j ≡ Err why → (x : Went) → x ≡ went_refused f m (refusal_number why) → went_shown f x words cells ≡ ran_on running d
      unfolding running_again run_again
      arm_refused why p x r =
          ap (λ x. went_shown f x words cells) r ∙ refused_says (refusal_number why) ∙ ran_refused (run_again f m) words cells q j judged_so why _ p refl
          ∙ ap (ran_on running) says

      -- accepted, in its room
      module _ (room : Room) (p : j ≡ Ok room) (cost : ℕ) (costs : cost ≡ 1 + work_of q) where
        abbrev effect : After
        effect = effect_in at_first (Traced q) room

        accepted_says : ran_at running effect cost ≡ ran_on running d
        unfolding running_again run_again
        accepted_says = ap (ran_at running effect) costs ∙ ran_accepted (run_again f m) words cells q j judged_so room p ∙ ap (ran_on running) says

        pub arm_stops : (x : Went) → x ≡ went_stopped m cost → f.fuel - m.spent < cost → went_shown f x words cells ≡ ran_on running d
        unfolding went_shown running_again ran_again run_again state_again went_stopped
        arm_stops x r h = ran_stops (run_again f m) words cells effect cost (ran_again f x) (ap (ran_again f) r) h ∙ accepted_says

        -- out is what the step gave
        pub arm_goes : (out : Outcome) (ws cs : List ℕ) → shown_outcome out ws cs ≡ effect_in (world_of s words cells) (Traced q) room
            → (x : Went) → x ≡ went_on_with m out.state (m.spent + cost) (shown_answer out.answer).number (shown_answer out.answer).values.offset
            → cost ≤ f.fuel - m.spent → went_shown f x ws cs ≡ ran_on running d
        unfolding went_shown running_again run_again
        arm_goes out ws cs step x r h =
            let number = (shown_answer out.answer).number in
            let offset = (shown_answer out.answer).values.offset in
            let stepped : shown_outcome out ws cs ≡ effect = step ∙ ap (λ (s : State). effect_in (world_of s words cells) (Traced q) room) same in
            let kept = limits_kept at_first q room in
            let limits : SameLimits out.state (state_again f m) = (
              ap (λ (t : After). t.world.state.depth) stepped ∙ kept.0,
              ap (λ (t : After). t.world.state.height) stepped ∙ kept.1,
              ap (λ (t : After). t.world.state.words) stepped ∙ kept.2,
              ap (λ (t : After). t.world.state.cells) stepped ∙ kept.3,
            ) in
            ran_goes (run_again f m) words cells effect cost (ran_again f x) out.state ws cs (m.spent + cost) number offset
            (ap (ran_again f) r ∙ went_says f m out.state limits (m.spent + cost) number offset)
            (ap (λ (t : After). t.world) stepped) (ap (λ (t : After). t.shown.number) stepped) (ap (λ (t : After). t.shown.values.offset) stepped) refl h
            ∙ accepted_says
