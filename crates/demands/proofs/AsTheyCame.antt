-- Number for number: a refusal tells the numbers that came, and no request is refused with 10. Assumes nothing.
use mathlib.Core.Path.{◌≡◌, refl, sym, ap, ◌∙◌}
use mathlib.Core.List.{List, []}
use mathlib.Core.Logic.{◌↔◌}
use Prim.Native.Nat.{ℕ, ◌≤◌}
use lib.Dec.{lit≤}
use borrow.Author.Tests.{le-leb}
use Rattle.std.specs.Prelude.{Ok, Err}
use Rattle.choice.specs.Choose.{choose}
use Rattle.choice.specs.Tests.{FirstIs, there}
use Rattle.regs.specs.Registers.{zero_registers}
use Rattle.record.specs.Reading.{bad_record}
use Rattle.rules.specs.declared.State.{State}
use Rattle.rules.specs.declared.Request.TheVariants.{Push, Pop, Replace, Host, ReturnHost, Sync, Restore, Reset, Set}
use Rattle.rules.specs.declared.Asked.{Asked}
use Rattle.rules.specs.declared.Asked.TheVariants.{Traced, SyncRegs, HostPart}
use Rattle.rules.specs.World.{World}
use Rattle.rules.specs.Answers.{Shown, After}
use Rattle.rules.specs.Calls.{push_tests, replace_tests}
use Rattle.rules.specs.Returns.{pop_tests}
use Rattle.rules.specs.Hosts.{host_tests, return_host_tests, part_tests}
use Rattle.rules.specs.Syncs.{sync_tests, restore_tests, reset_tests, set_tests, register_tests}
use Rattle.rules.specs.Rules.{tests_of, answered}
use Rattle.rules.proofs.Verdicts.{exactly_then, refused_unchanged}
use Rattle.request.specs.Requests.{Decoded}
use Rattle.replay.specs.Running.{answer_to}
use Rattle.face.specs.declared.state.CState.{CState}
use Rattle.face.specs.Requests.{request_from}
use Rattle.face_ask.specs.declared.answers.CAnswer.{CAnswer}
use Rattle.face_ask.specs.Told.{state_after, told, ToldAnswer, after_told}
use Rattle.face_place.specs.declared.answers.COffset.{COffset}
use Rattle.face_place.specs.declared.answers.CFrame.{CFrame}
use Rattle.face_place.specs.declared.answers.CHosted.{CHosted}
use Rattle.face_place.specs.declared.answers.CReturned.{CReturned}
use Rattle.face_place.specs.Held.{moved_put, len_put, registers_laid, emptied_put, unless_refused}
use Rattle.face_place.specs.Placed.{number_told, offset_told, frame_told, hosted_told, returned_told, world_held, answered_in, same_after, Placed, placed, placed_after}
use Rattle.face_place.proofs.Said.{left_refused}
use Rattle.face_replay.specs.Runs.{RunTold}
use Rattle.face_replay.proofs.Backs.{state_as_it_came}
use Rattle.demands.specs.Heard.{world_said}
use Rattle.demands.specs.AsTheyCame.{NumbersAsked, StatesAsTheyCame, WordsAsTheyCame, RunsAsTheyCame}

-- ---- 10

no_test_left : {n : ℕ} → FirstIs [] n → ⊥
no_test_left = elim [ ]

-- it stands in no list
no_ten : (w : World) (a : Asked) → FirstIs (tests_of w a) 10 → ⊥
unfolding push_tests pop_tests replace_tests host_tests return_host_tests sync_tests restore_tests reset_tests set_tests register_tests part_tests
no_ten w (Traced (Push q)) (there a (there b (there c (there d (there e (there f (there g (there h p)))))))) = no_test_left p
no_ten w (Traced (Pop instance)) (there a (there b p)) = no_test_left p
no_ten w (Traced (Replace q)) (there a (there b (there c (there d (there e (there f p)))))) = no_test_left p
no_ten w (Traced (Host q)) (there a (there b (there c (there d p)))) = no_test_left p
no_ten w (Traced (ReturnHost q)) (there a (there b (there c (there d (there e p))))) = no_test_left p
no_ten w (Traced (Sync ip)) (there a (there b p)) = no_test_left p
no_ten w (Traced Restore) (there a (there b (there c p))) = no_test_left p
no_ten w (Traced Reset) (there a p) = no_test_left p
no_ten w (Traced (Set head cell)) (there a (there b (there c p))) = no_test_left p
no_ten w (SyncRegs regs) (there a p) = no_test_left p
no_ten w (HostPart frame) (there a (there b p)) = no_test_left p

ten_said : (w : World) (d : Decoded) → (answer_to w d).shown.number ≡ 10 ↔ d ≡ Err bad_record
ten_said w (Ok q) = (λ e. absurd (no_ten w (Traced q) ((exactly_then w (Traced q) 10 (lit≤ tt)).0 e)), λ e. ap (λ d. (answer_to w d).shown.number) e)
ten_said w (Err e) = (λ e. refl, λ e. refl)

pub numbers_asked : NumbersAsked
numbers_asked κ a r e p =
    let ten = ten_said (world_said a.0 a.1.0.now a.1.1.0.now) (request_from a.1.1.1.0) in
    let same = ap (λ (t : ToldAnswer). t.answer.number) p in
    (λ n. ten.0 (sym same ∙ n), λ bad. same ∙ ten.1 bad)

-- ---- as they came
came_back : (c : CState) (n : ℕ) (s : State) → 2 ≤ n → state_after c n s ≡ c
unfolding choose
came_back c n s h = rw (le-leb 2 n h) refl

-- of any answer
as_it_came : (c : CState) (t : After) (r : CAnswer) (words cells : List ℕ) → told r words cells ≡ after_told c t → 2 ≤ r.number → r.state ≡ c
as_it_came c t r words cells p two =
    let number = ap (λ (a : ToldAnswer). a.answer.number) p in
    ap (λ (a : ToldAnswer). a.answer.state) p ∙ came_back c t.shown.number t.world.state (rw number at two)

refused_same : (w : World) (d : Decoded) → 2 ≤ (answer_to w d).shown.number → (answer_to w d).world ≡ w
refused_same w (Ok q) two = (refused_unchanged w (Traced q) two).0
refused_same w (Err e) two = refl

pub states_as_they_came : StatesAsTheyCame
states_as_they_came = (
  λ κ a r e p two.
      let w = world_said a.0 a.1.0.now a.1.1.0.now in
      let t : After = answer_to w (request_from a.1.1.1.0) in
      let number = ap (λ (t : ToldAnswer). t.answer.number) p in
      let same = refused_same w (request_from a.1.1.1.0) (rw number at two) in (
        as_it_came a.0 t r e.1.0.now e.1.1.0.now p two,
        ap (λ (t : ToldAnswer). t.words) p ∙ ap (λ (u : World). u.words) same,
        ap (λ (t : ToldAnswer). t.cells) p ∙ ap (λ (u : World). u.cells) same,
      ),
  λ κ a r e p two.
      let w = world_said a.0 a.1.0.now a.1.1.0.now in
      as_it_came a.0 (answered w (SyncRegs a.1.1.1.0)) r a.1.0.now a.1.1.0.now p two,
)

-- in place: the state as it came, by the number that was handed out
module _ {A : Type 0} (tell : Shown → A) (number : A → ℕ) (own : (t : Shown) → number (tell t) ≡ t.number) (put : List ℕ → After → List ℕ) where
  abbrev left_by : List ℕ → After → List ℕ
  left_by st t = unless_refused t.shown.number st (put st t)

  module _ (st words cells : List ℕ) (a : Asked) (r : A) (st' words' cells' : List ℕ) where
    abbrev answer : After
    answer = answered_in st words cells a

    same_state : (left : List ℕ → After → List ℕ) → placed r st' words' cells' ≡ placed_after tell left st answer → 2 ≤ number r
        → ((2 ≤ answer.shown.number) × (words' ≡ words)) × (cells' ≡ cells)
    same_state left p two =
        let refused = rw (ap (λ (t : Placed A). number t.told) p ∙ own answer.shown) at two in
        let same = (refused_unchanged (world_held st zero_registers words cells) a refused).0 in
        let words_same = ap (λ (t : Placed A). t.words) p ∙ ap (λ (u : World). u.words) same in
        let cells_same = ap (λ (t : Placed A). t.cells) p ∙ ap (λ (u : World). u.cells) same in
        ((refused, words_same), cells_same)

    as_left : placed r st' words' cells' ≡ placed_after tell left_by st answer → 2 ≤ number r → (st' ≡ st) × (words' ≡ words) × (cells' ≡ cells)
    as_left p two =
        let same = same_state left_by p two in
        (ap (λ (t : Placed A). t.state) p ∙ left_refused answer.shown.number st (put st answer) same.0.0, same.0.1, same.1)

pub words_as_they_came : WordsAsTheyCame
words_as_they_came = (
  λ κ a r e p two. as_left offset_told (λ (r : COffset). r.number) (λ t. refl) (λ st t. moved_put st t.world.state) _ _ _ _ _ _ _ _ p two,
  λ κ a r e p two. (as_left frame_told (λ (r : CFrame). r.number) (λ t. refl) (λ st t. moved_put st t.world.state) _ _ _ _ _ _ _ _ p two).0,
  λ κ a r e p two. as_left offset_told (λ (r : COffset). r.number) (λ t. refl) (λ st t. moved_put st t.world.state) _ _ _ _ _ _ _ _ p two,
  λ κ a r e p two. as_left hosted_told (λ (r : CHosted). r.number) (λ t. refl) (λ st t. len_put st t.world.state) _ _ _ _ _ _ _ _ p two,
  λ κ a r e p two.
      let same = as_left returned_told (λ (r : CReturned). r.number) (λ t. refl) (λ st t. moved_put st t.world.state) _ _ _ _ _ _ _ _ p two in
      (same.0, same.2),
  λ κ a r e p two. (same_state offset_told (λ (r : COffset). r.number) (λ t. refl) (λ st t. st) _ _ _ _ _ _ _ _ same_after p two).0.1,
  λ κ a r e p two. (same_state offset_told (λ (r : COffset). r.number) (λ t. refl) (λ st t. st) _ _ _ _ _ _ _ _ same_after p two).1,
  λ κ a r e p two. (as_left number_told (λ n. n) (λ t. refl) (λ st t. emptied_put st) _ _ _ _ _ _ _ _ p two).0,
  λ κ a r e p two. (as_left number_told (λ n. n) (λ t. refl) (λ st t. registers_laid st a.1.1.1.0.now) _ _ _ _ _ _ _ _ p two).0,
)

pub runs_as_they_came : RunsAsTheyCame
runs_as_they_came κ a r e p none =
    let same = state_as_it_came a.0 a.1.0.now a.1.1.0.now a.1.1.1.0.now none in (
      ap (λ (t : RunTold). t.run.state) p ∙ same.0,
      ap (λ (t : RunTold). t.words) p ∙ same.1.0,
      ap (λ (t : RunTold). t.cells) p ∙ same.1.1,
    )
