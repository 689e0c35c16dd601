-- What is handed out and left in place says document 01's answer, whatever registers lie behind the state. Assumes nothing.
--     placed_said     of every request that leaves the registers alone
--     whole_said      of a reset and of a register sync
--     left_refused    on a refusal the words are as they came
--     parts_said      a host's part is told alike whatever registers lie there
use mathlib.Core.Path.{◌≡◌, refl, sym, ap, subst, ◌∙◌}
use mathlib.Core.List.{List}
use Prim.Native.Nat.{ℕ, ◌≤◌, ◌<◌}
use lib.Dec.{eqb}
use lib.ListN.{length}
use borrow.Author.Tests.{le-leb, lt-leb}
use Rattle.choice.specs.Choose.{choose}
use Rattle.choice.specs.Tests.{Passed, FirstIs}
use Rattle.choice.proofs.Choices.{chosen_holds}
use Rattle.choice.proofs.Verdict.{refuses}
use Rattle.cells.specs.declared.host.HostFrame.{HostFrame}
use Rattle.regs.specs.declared.registers.Registers.{Registers}
use Rattle.regs.specs.Registers.{zero_registers}
use Rattle.rules.specs.declared.State.{State}
use Rattle.rules.specs.declared.PushArgs.{PushArgs}
use Rattle.rules.specs.declared.ReplaceArgs.{ReplaceArgs}
use Rattle.rules.specs.declared.HostArgs.{HostArgs}
use Rattle.rules.specs.declared.ReturnHostArgs.{ReturnHostArgs}
use Rattle.rules.specs.declared.Request.TheVariants.{Push, Pop, Replace, Host, ReturnHost, Sync, Restore, Reset, Set}
use Rattle.rules.specs.declared.Asked.{Asked}
use Rattle.rules.specs.declared.Asked.TheVariants.{Traced, SyncRegs, HostPart}
use Rattle.rules.specs.World.{World, world_of, top_frame, next_frame, moved_state, state_with}
use Rattle.rules.specs.Answers.{no_host, no_values, Shown, shown_of, After, after_of, refused_with}
use Rattle.rules.specs.Broken.{broken_state, broken_top, broken_next}
use Rattle.rules.specs.Shared.{grown_to}
use Rattle.rules.specs.Calls.{push_tests, push_room, pushed, replace_tests, replace_room, replaced}
use Rattle.rules.specs.Returns.{instance_after, returned_to, pop_tests, pop_room, popped}
use Rattle.rules.specs.Hosts.{host_tests, host_room, hosted, return_host_tests, return_host_room, returned_host, part_tests}
use Rattle.rules.specs.Syncs.{top_room, sync_tests, synced, restore_tests, restored, reset_tests, emptied}
use Rattle.rules.specs.Syncs.{set_tests, set_room, cell_set, register_tests, registers_stored}
use Rattle.rules.specs.Rules.{tests_of, effect_of, answered}
use Rattle.rules.proofs.Verdicts.{AskedVerdict, accepted, refused, asked_verdict, accepted_then, done_then}
use Rattle.face.specs.Parts.{part_told}
use Rattle.face_place.specs.Held.{state_held, registers_held, moved_put, registers_laid, emptied_put, unless_refused}
use Rattle.face_place.specs.Placed.{number_told, offset_told, frame_told, hosted_told, returned_told, world_held, answered_in}
use Rattle.face_place.specs.Placed.{same_after, moved_after, len_after, stored_after, emptied_after}
use Rattle.face_place.specs.Said.{number_shown, offset_shown, frame_shown, restored_shown, hosted_shown, returned_shown, SaidBy, PlacedSaid}
use Rattle.face_place.specs.Said.{WholeBy, WholeSaid, PartsSaid}
use Rattle.face_place.proofs.Held.{moved_held, len_held, emptied_held, laid_held}

-- ---- the words of the state after an answer, by its number
module _ (n : ℕ) (st st' : List ℕ) where
  pub left_refused : 2 ≤ n → unless_refused n st st' ≡ st
  unfolding unless_refused choose
  left_refused two = rw (le-leb 2 n two)

  left_done : n < 2 → unless_refused n st st' ≡ st'
  unfolding unless_refused choose
  left_done low = rw (lt-leb 2 n low)

-- ---- with other registers the same tests are asked
module _ (s : State) (words cells : List ℕ) (regs : Registers) where
  abbrev bare : World
  bare = world_of s words cells

  abbrev whole : World
  whole = world_of (state_with s regs) words cells

  same_tests : (a : Asked) → tests_of bare a ≡ tests_of whole a
  unfolding broken_state broken_top broken_next grown_to push_tests pop_tests replace_tests host_tests
      return_host_tests sync_tests restore_tests reset_tests set_tests register_tests part_tests
  same_tests (Traced (Push q)) = refl
  same_tests (Traced (Pop instance)) = refl
  same_tests (Traced (Replace q)) = refl
  same_tests (Traced (Host q)) = refl
  same_tests (Traced (ReturnHost q)) = refl
  same_tests (Traced (Sync ip)) = refl
  same_tests (Traced Restore) = refl
  same_tests (Traced Reset) = refl
  same_tests (Traced (Set head cell)) = refl
  same_tests (SyncRegs r) = refl
  same_tests (HostPart frame) = refl

  -- so what is made of every step and of every refusal is made of the answer
  answered_as : (f : After → After) (a : Asked) → ((effect_of bare a).shown.number < 2 → f (effect_of bare a) ≡ effect_of whole a)
      → ((n : ℕ) → 2 ≤ n → f (refused_with bare n) ≡ refused_with whole n) → f (answered bare a) ≡ answered whole a
  unfolding answered
  answered_as f a done refusal = by (asked_verdict bare a)
    where
      by : AskedVerdict bare a → f (answered bare a) ≡ answered whole a
      by (accepted p e) =
          ap f e
          ∙ done (subst (λ (t : After). t.shown.number < 2) e ((accepted_then bare a).1 p))
          ∙ sym (done_then whole a (subst Passed (same_tests a) p))
      by (refused n p two e) =
          ap f e ∙ refusal n two ∙ sym (refuses (refused_with whole) (effect_of whole a) (subst (λ ts. FirstIs ts n) (same_tests a) p))

-- ---- requests that leave the registers alone
module _ (st words cells : List ℕ) (regs : Registers) (long : 8 ≤ length st) where
  abbrev held : World
  held = world_held st zero_registers words cells

  abbrev there : World
  there = world_held st regs words cells

  abbrev said : {A : Type 0} → (Shown → A) → (A → Shown) → (List ℕ → After → List ℕ) → After → After
  said tell show left t = after_of (show (tell t.shown)) (world_held (left st t) regs t.world.words t.world.cells)

  module _ {A : Type 0} (tell : Shown → A) (show : A → Shown) (zeros : (n : ℕ) → 2 ≤ n → show (tell (shown_of n no_values)) ≡ shown_of n no_values) (a : Asked)
      (shows : show (tell (effect_of held a).shown) ≡ (effect_of there a).shown)
      (same : let u = (effect_of held a).world in (effect_of there a).world ≡ world_of (state_with u.state regs) u.words u.cells)
    where
      abbrev step : After
      step = effect_of held a

      -- the words say the state after the step; a refusal writes nothing
      request_said : (left : List ℕ → After → List ℕ) → ((n : ℕ) → 2 ≤ n → left st (refused_with held n) ≡ st)
          → (step.shown.number < 2 → state_held (left st step) regs ≡ state_with step.world.state regs)
          → said tell show left (answered_in st words cells a) ≡ answered there a
      request_said left stays says =
          answered_as held.state words cells regs (said tell show left) a
          (λ low. (λ i. after_of (shows i) (world_of (says low i) step.world.words step.world.cells))
          ∙ ap (after_of (effect_of there a).shown) (sym same))
          (λ n two i. after_of (zeros n two i) (world_held (stays n two i) regs words cells))

      moved_said : step.world.state ≡ moved_state held.state step.world.state.count step.world.state.current step.world.state.len
          → said tell show moved_after (answered_in st words cells a) ≡ answered there a
      moved_said moves =
          request_said moved_after (λ n two. left_refused n st _ two)
          (λ low. ap (λ x. state_held x regs) (left_done _ st _ low)
          ∙ ap (λ s. state_held (moved_put st s) regs) moves
          ∙ moved_held zero_registers regs step.world.state.count step.world.state.len st long step.world.state.current
          ∙ ap (λ s. state_with s regs) (sym moves))

      len_said : step.world.state ≡ moved_state held.state held.state.count held.state.current step.world.state.len
          → said tell show len_after (answered_in st words cells a) ≡ answered there a
      len_said moves =
          request_said len_after (λ n two. left_refused n st _ two)
          (λ low. ap (λ x. state_held x regs) (left_done _ st _ low) ∙ len_held st long regs step.world.state ∙ ap (λ s. state_with s regs) (sym moves))

      same_said : step.world.state ≡ held.state → said tell show same_after (answered_in st words cells a) ≡ answered there a
      same_said stays = request_said same_after (λ n two. refl) (λ low. ap (λ s. state_with s regs) (sym stays))

-- what a return shows is shown of a frame, with its host's or without one
module _ (w : World) (instance : ℕ) where
  popped_shown : frame_shown (frame_told (returned_to w.state.count (top_frame w) (next_frame w) instance no_host))
      ≡ returned_to w.state.count (top_frame w) (next_frame w) instance no_host
  unfolding returned_to
  popped_shown = chosen_holds (λ t. frame_shown (frame_told t) ≡ t) (eqb w.state.count 1) _ _ refl refl

  returned_shown_lem : (host : HostFrame) → returned_shown (returned_told (returned_to w.state.count (top_frame w) (next_frame w) instance host))
      ≡ returned_to w.state.count (top_frame w) (next_frame w) instance host
  unfolding returned_to
  returned_shown_lem host = chosen_holds (λ t. returned_shown (returned_told t) ≡ t) (eqb w.state.count 1) _ _ refl refl

push_said : (q : PushArgs) → SaidBy offset_told (λ regs. offset_shown) moved_after (Traced (Push q))
unfolding push_room pushed grown_to
push_said q st words cells regs long = moved_said st words cells regs long offset_told offset_shown (λ n two. refl) (Traced (Push q)) refl refl refl

pop_said : (instance : ℕ) → SaidBy frame_told (λ regs. frame_shown) moved_after (Traced (Pop instance))
unfolding pop_room popped instance_after
pop_said instance st words cells regs long =
    moved_said st words cells regs long frame_told frame_shown (λ n two. refl) (Traced (Pop instance))
    (popped_shown (world_held st zero_registers words cells) instance) refl refl

replace_said : (q : ReplaceArgs) → SaidBy offset_told (λ regs. offset_shown) moved_after (Traced (Replace q))
unfolding replace_room replaced grown_to
replace_said q st words cells regs long = moved_said st words cells regs long offset_told offset_shown (λ n two. refl) (Traced (Replace q)) refl refl refl

host_said : (q : HostArgs) → SaidBy hosted_told (λ regs. hosted_shown) len_after (Traced (Host q))
unfolding host_room hosted grown_to
host_said q st words cells regs long = len_said st words cells regs long hosted_told hosted_shown (λ n two. refl) (Traced (Host q)) refl refl refl

return_host_said : (q : ReturnHostArgs) → SaidBy returned_told (λ regs. returned_shown) moved_after (Traced (ReturnHost q))
unfolding return_host_room returned_host grown_to instance_after
return_host_said q st words cells regs long =
    moved_said st words cells regs long returned_told returned_shown (λ n two. refl) (Traced (ReturnHost q))
    (returned_shown_lem (world_held st zero_registers words cells) q.instance _) refl refl

sync_said : (ip : ℕ) → SaidBy offset_told (λ regs. offset_shown) same_after (Traced (Sync ip))
unfolding top_room synced
sync_said ip st words cells regs long = same_said st words cells regs long offset_told offset_shown (λ n two. refl) (Traced (Sync ip)) refl refl refl

-- the registers are handed out where it is accepted
restore_said : SaidBy frame_told restored_shown same_after (Traced Restore)
unfolding top_room restored choose
restore_said st words cells regs long =
    same_said st words cells regs long frame_told (restored_shown regs) (λ n two. rw (le-leb 2 n two)) (Traced Restore) refl refl refl

set_said : (head cell : ℕ) → SaidBy offset_told (λ regs. offset_shown) same_after (Traced (Set head cell))
unfolding set_room cell_set
set_said head cell st words cells regs long =
    same_said st words cells regs long offset_told offset_shown (λ n two. refl) (Traced (Set head cell)) refl refl refl

pub placed_said : PlacedSaid
placed_said = (push_said, pop_said, replace_said, host_said, return_host_said, sync_said, restore_said, set_said)

-- ---- with the registers in words
module _ (left : List ℕ → After → List ℕ) (a : Asked) (st words cells : List ℕ) (long : 11 ≤ length st) where
  abbrev bare_held : World
  bare_held = world_held st zero_registers words cells

  abbrev whole_held : World
  whole_held = world_held st (registers_held st 8) words cells

  abbrev stepped : After
  stepped = effect_of bare_held a

  abbrev says_whole : After → After
  says_whole t =
      let st' = left st t in
      after_of (number_shown (number_told t.shown)) (world_held st' (registers_held st' 8) t.world.words t.world.cells)

  whole_by : ((n : ℕ) → 2 ≤ n → left st (refused_with bare_held n) ≡ st) → (stepped.shown.number < 2 → says_whole stepped ≡ effect_of whole_held a)
      → says_whole (answered_in st words cells a) ≡ answered whole_held a
  whole_by stays says =
      answered_as bare_held.state words cells (registers_held st 8) says_whole a says
      (λ n two. ap (λ x. after_of (number_shown n) (world_held x (registers_held x 8) words cells)) (stays n two))

reset_said : WholeBy emptied_after (Traced Reset)
unfolding emptied
reset_said st words cells long =
    whole_by emptied_after (Traced Reset) st words cells long (λ n two. left_refused n st _ two)
    (λ low. ap (λ x. after_of (number_shown 0) (world_held x (registers_held x 8) words cells)) (left_done 0 st (emptied_put st) low)
    ∙ ap (λ s. after_of (number_shown 0) (world_of s words cells)) (emptied_held st long (registers_held st 8)))

registers_said : (ws : List ℕ) → WholeBy (stored_after ws) (SyncRegs (registers_held ws 0))
unfolding registers_stored
registers_said ws st words cells long =
    whole_by (stored_after ws) (SyncRegs (registers_held ws 0)) st words cells long (λ n two. left_refused n st _ two)
    (λ low. ap (λ x. after_of (number_shown 0) (world_held x (registers_held x 8) words cells)) (left_done 0 st (registers_laid st ws) low)
    ∙ ap (λ s. after_of (number_shown 0) (world_of s words cells)) (laid_held st long ws (registers_held st 8)))

pub whole_said : WholeSaid
whole_said = (reset_said, registers_said)

-- ---- a host's part
pub parts_said : PartsSaid
unfolding broken_state part_tests part_told
parts_said st words cells regs frame = refl
