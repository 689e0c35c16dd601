-- From the promises to the definitions: what was heard is what is answered. Assumes nothing.
--     heard_answered     one request
--     routine_ran        `call_host` is a host part, and a host that writes
--     state_after_said, numbers_said     the numbers after an answer say the state after it
use mathlib.Core.Path.{◌≡◌, refl, sym, ap, ◌∙◌}
use mathlib.Core.Bool.{Bool, true, false}
use mathlib.Core.List.{List, []}
use Prim.Native.Nat.{ℕ, ◌≤◌}
use lib.Dec.{leb, eqb}
use lib.Seq.{sets}
use borrow.Author.Tests.{leb-true}
use Rattle.choice.specs.Choose.{choose}
use Rattle.choice.proofs.Verdict.{Verdict, passes, fails, verdict, accepts, refuses}
use Rattle.regs.specs.declared.registers.Registers.{Registers}
use Rattle.cells.specs.declared.host.HostFrame.{HostFrame}
use Rattle.cells.proofs.Hosts.{results_stored_lem}
use Rattle.rules.specs.declared.State.{State}
use Rattle.rules.specs.declared.Asked.{Asked}
use Rattle.rules.specs.declared.Asked.TheVariants.{Traced, SyncRegs, HostPart}
use Rattle.rules.specs.World.{World, world_of}
use Rattle.rules.specs.Answers.{no_values, Shown, shown_of, After, after_of, refused_with}
use Rattle.rules.specs.Hosts.{part_tests, part_lent}
use Rattle.rules.specs.Rules.{answered}
use Rattle.rules.specs.Events.{asks, host_wrote, stepped_by}
use Rattle.rules.proofs.Verdicts.{refused_unchanged}
use Rattle.rules.proofs.Kept.{part_changes_nothing}
use Rattle.replay.specs.Running.{answer_to}
use Rattle.stack_hosts.specs.Routine.{sum_stored, host_called}
use Rattle.face.specs.declared.state.CState.{CState}
use Rattle.face.specs.States.{state_from, state_to}
use Rattle.face.proofs.Handed.{state_kept}
use Rattle.face_ask.specs.Told.{state_after, ToldAnswer, after_told}
use Rattle.face.specs.Parts.{part_with, part_refused, size_of, frame_lent, part_told}
use Rattle.face_place.specs.Held.{registers_held}
use Rattle.face_place.specs.Args.{push_held, replace_held, host_held, return_host_held, host_frame_held}
use Rattle.face_place.specs.Placed.{world_held, Placed}
use Rattle.face_place.specs.Said.{number_shown, offset_shown, frame_shown, restored_shown, hosted_shown, returned_shown}
use Rattle.face_place.proofs.Said.{placed_said, whole_said, parts_said}
use Rattle.demands.specs.Heard.{world_said, after_said, part_said, Heard, by_push_frame, by_pop_frame, by_replace_frame, by_prepare_host_frame}
use Rattle.demands.specs.Heard.{by_return_prepare_host_frame, by_sync_ip, by_restore_frame, by_reset, by_set, by_sync_regs, by_host_inout, by_ask}
use Rattle.demands.specs.Heard.{by_cattlecleat_push_frame, by_cattlecleat_pop_frame, by_cattlecleat_replace_frame, by_cattlecleat_prepare_host_frame}
use Rattle.demands.specs.Heard.{by_cattlecleat_return_prepare_host_frame, by_cattlecleat_sync_ip, by_cattlecleat_restore_frame, by_cattlecleat_set}
use Rattle.demands.specs.Heard.{by_cattlecleat_reset, by_cattlecleat_sync_registers_in_place, by_cattlecleat_host_part_in_place}
use Rattle.demands.specs.Heard.{by_cattlecleat_ask, by_cattlecleat_sync_registers, by_cattlecleat_host_part, RoutineHeard, by_call_host, routine_writes}

-- ---- numbers

-- a state after a request, by its numbers: where it is refused they are those that came, and say the state as it was
state_after_said : (c : CState) (n : ℕ) (s : State) → (2 ≤ n → s ≡ state_from c) → state_from (state_after c n s) ≡ s
unfolding choose
state_after_said c n s same = by (leb 2 n) refl
  where
    by : (b : Bool) → leb 2 n ≡ b → state_from (choose b c (state_to s)) ≡ s
    by true e = sym (same (leb-true 2 n e))
    by false e = state_kept s

-- what the numbers of an answer say
abbrev pub answer_said : ToldAnswer → After
answer_said t = after_said t.answer t.words t.cells

pub numbers_said : (c : CState) (t : After) → (2 ≤ t.shown.number → t.world.state ≡ state_from c) → answer_said (after_told c t) ≡ t
numbers_said c t same = λ i. after_of t.shown (world_of (state_after_said c t.shown.number t.world.state same i) t.world.words t.world.cells)

answered_said : (c : CState) (words cells : List ℕ) (a : Asked)
    → answer_said (after_told c (answered (world_said c words cells) a)) ≡ answered (world_said c words cells) a
answered_said c words cells a =
    numbers_said c (answered (world_said c words cells) a) (λ two. ap (λ (u : World). u.state) (refused_unchanged (world_said c words cells) a two).0)

-- a host part over the C face
lent_number : (f : HostFrame) → (frame_lent f).number ≡ 0
unfolding frame_lent choose
lent_number f = by (eqb (size_of f) 0)
  where
    by : (b : Bool) → (choose b (part_with 0 0 0 0) (part_with 0 f.start f.params (size_of f))).number ≡ 0
    by true = refl
    by false = refl

part_said_lem : (w : World) (f : HostFrame) → part_said (part_told w f) w ≡ answered w (HostPart f)
unfolding answered part_told part_lent
part_said_lem w f = by (verdict (part_tests w f))
  where
    by : Verdict (part_tests w f) → part_said (part_told w f) w ≡ answered w (HostPart f)
    by (passes p) =
        ap (λ r. part_said r w) (accepts part_refused (frame_lent f) (part_tests w f) p)
        ∙ ap (λ n. after_of (shown_of n no_values) w) (lent_number f)
        ∙ sym (accepts (refused_with w) (part_lent w) (part_tests w f) p)
    by (fails n p) =
        ap (λ r. part_said r w) (refuses part_refused (frame_lent f) p)
        ∙ sym (refuses (refused_with w) (part_lent w) p)

-- what is handed out and left in place, read together
placed_there : {A : Type 0} (show : A → Shown) (regs : Registers) {t u : Placed A} → t ≡ u
    → after_of (show t.told) (world_held t.state regs t.words t.cells) ≡ after_of (show u.told) (world_held u.state regs u.words u.cells)
placed_there show regs p = ap (λ x. after_of (show x.told) (world_held x.state regs x.words x.cells)) p

whole_there : {t u : Placed ℕ} → t ≡ u
    → after_of (number_shown t.told) (world_held t.state (registers_held t.state 8) t.words t.cells)
    ≡ after_of (number_shown u.told) (world_held u.state (registers_held u.state 8) u.words u.cells)
whole_there p = ap (λ x. after_of (number_shown x.told) (world_held x.state (registers_held x.state 8) x.words x.cells)) p

pub heard_answered : {w : World} {a : Asked} {t : After} → Heard w a t → t ≡ answered w a
heard_answered (by_push_frame κ a r e p) = p
heard_answered (by_pop_frame κ a r e p) = p
heard_answered (by_replace_frame κ a r e p) = p
heard_answered (by_prepare_host_frame κ a r e p) = p
heard_answered (by_return_prepare_host_frame κ a r e p) = p
heard_answered (by_sync_ip κ a r e p) = p
heard_answered (by_restore_frame κ a r e p) = p
heard_answered (by_reset κ a r e p) = p
heard_answered (by_set κ a r e p) = p
heard_answered (by_sync_regs κ a r e p) = p
heard_answered (by_ask κ a r e p) = p
heard_answered (by_host_inout κ a r e p) = p
heard_answered (by_cattlecleat_ask κ a r e p q asks-q) =
    let w = world_said a.0 a.1.0.now a.1.1.0.now in
    ap answer_said p ∙ ap (λ d. answer_said (after_told a.0 (answer_to w d))) asks-q ∙ answered_said a.0 a.1.0.now a.1.1.0.now (Traced q)
heard_answered (by_cattlecleat_sync_registers κ a r e p) =
    ap answer_said p ∙ answered_said a.0 a.1.0.now a.1.1.0.now (SyncRegs a.1.1.1.0)
heard_answered (by_cattlecleat_host_part κ a r e p) =
    let w = world_said a.0 a.1.0.now a.1.1.0.now in
    ap (λ t. part_said t w) p ∙ part_said_lem w a.1.1.1.0
heard_answered (by_cattlecleat_push_frame κ a r e p regs long) =
    placed_there offset_shown regs p ∙ placed_said.0 (push_held a.1.1.1.0.now) a.0.now a.1.0.now a.1.1.0.now regs long
heard_answered (by_cattlecleat_pop_frame κ a r e p regs long) =
    placed_there frame_shown regs p ∙ placed_said.1 a.1.1.1.0 a.0.now a.1.0.now a.1.1.0.now regs long
heard_answered (by_cattlecleat_replace_frame κ a r e p regs long) =
    placed_there offset_shown regs p ∙ placed_said.2 (replace_held a.1.1.1.0.now) a.0.now a.1.0.now a.1.1.0.now regs long
heard_answered (by_cattlecleat_prepare_host_frame κ a r e p regs long) =
    placed_there hosted_shown regs p ∙ placed_said.3 (host_held a.1.1.1.0.now) a.0.now a.1.0.now a.1.1.0.now regs long
heard_answered (by_cattlecleat_return_prepare_host_frame κ a r e p regs long) =
    placed_there returned_shown regs p ∙ placed_said.4 (return_host_held a.1.1.1.0.now) a.0.now a.1.0.now a.1.1.0.now regs long
heard_answered (by_cattlecleat_sync_ip κ a r e p regs long) =
    placed_there offset_shown regs p ∙ placed_said.5 a.1.1.1.0 a.0.now a.1.0.now a.1.1.0.now regs long
heard_answered (by_cattlecleat_restore_frame κ a r e p regs long) =
    placed_there (restored_shown regs) regs p ∙ placed_said.6 a.0.now a.1.0.now a.1.1.0.now regs long
heard_answered (by_cattlecleat_set κ a r e p regs long) =
    placed_there offset_shown regs p ∙ placed_said.7 a.1.1.1.0 a.1.1.1.1.0 a.0.now a.1.0.now a.1.1.0.now regs long
heard_answered (by_cattlecleat_reset κ a r e p long) =
    whole_there p ∙ whole_said.0 a.0.now a.1.0.now a.1.1.0.now long
heard_answered (by_cattlecleat_sync_registers_in_place κ a r e p long) =
    whole_there p ∙ whole_said.1 a.1.1.1.0.now a.0.now a.1.0.now a.1.1.0.now long
heard_answered (by_cattlecleat_host_part_in_place κ a r e p regs) =
    let w = world_held a.0.now regs a.1.0.now a.1.1.0.now in
    ap (λ t. part_said t w) (p ∙ parts_said a.0.now a.1.0.now a.1.1.0.now regs (host_frame_held a.1.1.1.0.now))
    ∙ part_said_lem w (host_frame_held a.1.1.1.0.now)

-- ---- the routine
pub part_step : (w : World) (f : HostFrame) → stepped_by w (asks (HostPart f)) ≡ w
unfolding stepped_by
part_step w f = part_changes_nothing w f

routine_wrote : (w : World) (f : HostFrame) → (host_called w f).world ≡ stepped_by w (host_wrote f.start (routine_writes w f))
unfolding host_called sum_stored routine_writes part_tests stepped_by
routine_wrote w f = by (verdict (part_tests w f))
  where
    by : Verdict (part_tests w f) → (host_called w f).world ≡ stepped_by w (host_wrote f.start (routine_writes w f))
    by (passes p) =
        ap (λ t. t.world) (accepts (refused_with w) (sum_stored w f) (part_tests w f) p)
        ∙ ap (world_of w.state w.words) (results_stored_lem w.cells w.state.len f _ p.1.0)
        ∙ ap (λ vs. world_of w.state w.words (sets w.cells f.start vs)) (sym (accepts (λ n. []) _ (part_tests w f) p))
    by (fails n p) =
        ap (λ t. t.world) (refuses (refused_with w) (sum_stored w f) p)
        ∙ ap (λ vs. world_of w.state w.words (sets w.cells f.start vs)) (sym (refuses (λ n. []) _ p))

-- so `call_host` is a host part that is asked for, and a host that writes
pub routine_ran : {w : World} {f : HostFrame} {t : After} → RoutineHeard w f t
    → t.world ≡ stepped_by (stepped_by w (asks (HostPart f))) (host_wrote f.start (routine_writes w f))
routine_ran {w} {f} (by_call_host κ a r e p) =
    ap (λ t. t.world) p ∙ routine_wrote w f ∙ sym (ap (λ u. stepped_by u (host_wrote f.start (routine_writes w f))) (part_step w f))
