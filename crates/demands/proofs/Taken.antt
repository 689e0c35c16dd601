-- T-01 where hosts stand, from the laws of tape: a history of blocks ends where they lead. Assumes nothing.
use mathlib.Core.Path.{◌≡◌, refl, sym, ap, subst, ◌∙◌}
use mathlib.Core.Bool.{true}
use mathlib.Core.Logic.{◌↔◌, ◌⊎◌, inl, inr}
use mathlib.Core.List.{List, [], ◌∷◌}
use Prim.Native.Nat.{ℕ, ◌≤◌}
use native.Mathlib.Omega.{arith}
use lib.ListN.{length}
use Rattle.tape.specs.Tapes.{Taping, taping_of, begun, has_stopped, fed, ShownFed, fed_with, feeding, end_told}
use Rattle.tape.specs.AnyCuts.{fed_all, Coming, a_block, an_end, came_by, came_all, blocks_of, EndedWithoutStop}
use Rattle.tape.proofs.AnyCuts.{so_far, any_cuts_then_any, stop_rests, stop_repeats, end_rests_lem}
use Rattle.tape.proofs.Answered.{feeding_leaves, empty_block, exactly_22, only_22}
use Rattle.listing.specs.Taped.{ShownLines}
use Rattle.listing.proofs.Written.{fed_verdict, feed_same, end_verdict, end_same}
use Rattle.face_replay.proofs.TapesBack.{feed_tape_said, finish_tape_said}
use Rattle.demands.specs.Taken.{came_answer, Taken, by_feed, by_finish, by_cattlecleat_feed, by_cattlecleat_finish, by_list_feed, by_list_finish}
use Rattle.demands.specs.Taken.{TapeHistory, tape_end, taken_then}
use Rattle.demands.specs.Taken.{BlocksFollow, BlocksRefused, BlocksBegin, BlocksSoFar, BlocksWhole, EmptyChangesNothing, StopStands, EndStands}

pub taken_is : {t : Taping} {c : Coming} {s : ShownFed} → Taken t c s → s ≡ came_answer t c
taken_is (by_feed κ a r e p) = p
taken_is (by_finish κ a r e p) = ap (λ u. fed_with u 0) p
taken_is (by_cattlecleat_feed κ a r e p) = feed_tape_said κ a r e p
taken_is (by_cattlecleat_finish κ a r e p) = ap (λ u. fed_with u 0) (finish_tape_said κ a r e p)
taken_is (by_list_feed κ a r e p room) =
    let t = taping_of a.0.now a.1.0.now a.1.1.0.now in
    let block = a.1.1.1.0.now in
    let out = a.1.1.1.1.0.now in
    ap (λ (s : ShownLines). fed_with s.tape s.number) p
    ∙ feed_same t block out (fed_verdict t block out) (λ n. room (ap (λ (s : ShownLines). s.number) p ∙ n))
taken_is (by_list_finish κ a r e p room) =
    let t = taping_of a.0.now a.1.0.now a.1.1.0.now in
    let out = a.1.1.1.0.now in
    ap (λ (s : ShownLines). fed_with s.tape s.number) p
    ∙ end_same t out (end_verdict t out) (λ n. room (ap (λ (s : ShownLines). s.number) p ∙ n))

pub blocks_follow : BlocksFollow
blocks_follow t c s taken = taken_is taken

-- the tape after it
pub answer_leaves : (t : Taping) (c : Coming) → (came_answer t c).tape ≡ came_by t c
answer_leaves t (a_block b) = feeding_leaves t b
answer_leaves t an_end = refl

pub history_came : {t u : Taping} {cs : List Coming} → TapeHistory t cs u → u ≡ came_all t cs
unfolding came_all
history_came (tape_end t) = refl
history_came (taken_then t c s cs u taken rest) =
    history_came rest ∙ ap (λ x. came_all x cs) (ap (λ (x : ShownFed). x.tape) (taken_is taken) ∙ answer_leaves t c)

pub blocks_refused : BlocksRefused
blocks_refused t block s taken =
    subst (λ (x : ShownFed). (x.number ≡ 22 ↔ (EndedWithoutStop t × (length block ≡ 0 → ⊥))) × (2 ≤ x.number → x ≡ fed_with t 22)) (sym (taken_is taken))
    (exactly_22 t block, λ two. by two (only_22 t block))
  where
    by : 2 ≤ (feeding t block).number → (feeding t block ≡ fed_with (fed t block) 0) ⊎ (feeding t block ≡ fed_with t 22) → feeding t block ≡ fed_with t 22
    by two (inl e) = let none : (feeding t block).number ≡ 0 = ap (λ (x : ShownFed). x.number) e in absurd (omega arith)
    by two (inr e) = e

pub blocks_begin : BlocksBegin
blocks_begin κ a r e p words cells = ap (λ x. taping_of x words cells) p

blocks_alone : (t : Taping) (bs : List (List ℕ)) → came_all t (blocks_of bs) ≡ fed_all t bs
unfolding came_all fed_all
blocks_alone t [] = refl
blocks_alone t (b ∷ bs) = blocks_alone (fed t b) bs

pub blocks_so_far : BlocksSoFar
blocks_so_far v bs u history = history_came history ∙ blocks_alone (begun v) bs ∙ so_far v bs

pub blocks_whole : BlocksWhole
blocks_whole v bs cs u history = ap (λ (x : Taping). x.run) (history_came history) ∙ any_cuts_then_any v bs cs

pub empty_changes_nothing : EmptyChangesNothing
empty_changes_nothing t s taken = taken_is taken ∙ empty_block t

-- ---- after a stop, after an end
pub told_stays : (t : Taping) → has_stopped t.run ≡ true → end_told t ≡ t
unfolding came_all
told_stays t stopped = stop_rests t (an_end ∷ []) stopped

stop_answers : (t : Taping) (c : Coming) → has_stopped t.run ≡ true → came_answer t c ≡ fed_with t 0
stop_answers t (a_block b) stopped = stop_repeats t b stopped
stop_answers t an_end stopped = ap (λ x. fed_with x 0) (told_stays t stopped)

pub stop_stands : StopStands
stop_stands t stopped = (λ c s taken. taken_is taken ∙ stop_answers t c stopped, λ cs u history. history_came history ∙ stop_rests t cs stopped)

pub end_stands : EndStands
end_stands t s taken cs u history =
    let is = ap (λ (x : ShownFed). x.tape) (taken_is taken) in
    history_came history ∙ ap (λ x. came_all x cs) is ∙ end_rests_lem t cs ∙ sym is
