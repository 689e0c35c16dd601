-- Blocks and the end come to the whole. Assumes nothing.
--     fed_joins          a block more is its bytes behind those so far
--     so_far, short_waits, any_cuts, any_cuts_then_any, runs_its_bytes, stop_rests, stop_repeats, end_rests_lem
use mathlib.Core.Path.{◌≡◌, refl, sym, ap, subst, ◌∙◌}
use mathlib.Core.Bool.{Bool, true, false}
use mathlib.Core.List.{List, [], ◌∷◌, ◌++◌, append_assoc, append-nil}
use Prim.Native.Nat.{ℕ, ◌≤◌, min}
use native.Mathlib.Omega.{arith}
use lib.ListN.{length, take, replicate}
use Rattle.choice.specs.Choose.{choose}
use Rattle.runs.proofs.Lists.{sets_there}
use Rattle.record.specs.Form.{record_size}
use Rattle.request.specs.Entries.{WholeRecords, entries_in}
use Rattle.replay.specs.Running.{Running, replayed}
use Rattle.replay.proofs.Spent.{stop_stays}
use Rattle.replay.proofs.Turns.{replay_joins}
use Rattle.tape.specs.Tapes.{Taping, most_held, held_bytes, held_in, kept_of, taping_with, begun, whole_in}
use Rattle.tape.specs.Tapes.{rest_in, has_stopped, block_rests, end_rests, held_after, went_through, fed, end_told}
use Rattle.tape.specs.AnyCuts.{fed_all, joined, Coming, a_block, an_end, came_all, blocks_of, RunsItsBytes}
use Rattle.tape.specs.AnyCuts.{AnyCuts, AnyCutsThenAny, SoFar, StopRests, StopRepeats, EndRests, ShortWaits}
use Rattle.tape.proofs.Whole.{whole_joins, rest_joins, whole_none, rest_all, whole_rest, whole_is, rest_short}
use Rattle.tape.proofs.Going.{replay_nothing}
use Rattle.tape.proofs.Feeds.{feed_stopped, fed_stopped, fed_none, fed_ended, fed_on, told_stopped, told_ended, told_goes}

-- ---- what is held comes back
pub held_back : (l : List ℕ) → length l ≤ most_held → held_bytes (kept_of l) (length l) ≡ l
held_back l h =
    let all : min (length l) most_held ≡ length l = omega arith in
    ap (λ k. take k (kept_of l)) all ∙ sets_there l (replicate record_size 0) 0 (omega arith)

-- ---- bytes behind whole records, and behind any
pub went_joins : (v : Running) (a b : List ℕ) → WholeRecords a → went_through v (a ++ b) ≡ went_through (replayed v a) b
unfolding went_through
went_joins v a b whole =
    let ran = ap (replayed v) (whole_joins a b whole) ∙ replay_joins v a (whole_in b) whole in
    λ i. held_after (ran i) (rest_joins a b whole i)

went_on_lem : (v : Running) (a b : List ℕ) → went_through v (a ++ b) ≡ went_through (replayed v (whole_in a)) (rest_in a ++ b)
went_on_lem v a b =
    ap (λ l. went_through v (l ++ b)) (sym (whole_rest a)) ∙ ap (went_through v) (append_assoc (whole_in a) (rest_in a) b)
    ∙ went_joins v (whole_in a) (rest_in a ++ b) (whole_is a)

module _ (v : Running) (stopped : has_stopped v ≡ true) where
  replay_stopped : (bytes : List ℕ) → replayed v bytes ≡ v
  unfolding replayed
  replay_stopped bytes = stop_stays v (entries_in bytes) stopped

  went_stopped_lem : (bytes : List ℕ) → went_through v bytes ≡ begun v
  unfolding went_through choose
  went_stopped_lem bytes = rw (replay_stopped (whole_in bytes), stopped)

-- what a run that has not stopped holds
went_holds : (v : Running) (a : List ℕ) → has_stopped (replayed v (whole_in a)) ≡ false → went_through v a ≡ taping_with (replayed v (whole_in a)) (rest_in a) false
unfolding went_through choose
went_holds v a e = rw e

-- fewer bytes than a record wait
went_short : (v : Running) (l : List ℕ) → length l ≤ most_held → (went_through v l).run ≡ v
unfolding went_through
went_short v l h = ap (replayed v) (whole_none l (omega arith)) ∙ replay_nothing v

short_held : (v : Running) (l : List ℕ) → has_stopped v ≡ false → length l ≤ most_held → went_through v l ≡ taping_with v l false
short_held v l e h =
    let ran : replayed v (whole_in l) ≡ v = ap (replayed v) (whole_none l (omega arith)) ∙ replay_nothing v in
    went_holds v l (ap has_stopped ran ∙ e) ∙ (λ i. taping_with (ran i) (rest_all l (omega arith) i) false)

fed_behind : (v : Running) (l b : List ℕ) → has_stopped v ≡ false → length l ≤ most_held → fed (taping_with v l false) b ≡ went_through v (l ++ b)
fed_behind v l [] e h = fed_none (taping_with v l false) [] refl ∙ sym (ap (went_through v) (append-nil l) ∙ short_held v l e h)
fed_behind v l (x ∷ xs) e h =
    fed_on (taping_with v l false) (x ∷ xs) e (λ z. absurd (omega arith)) refl ∙ ap (λ m. went_through v (m ++ x ∷ xs)) (held_back l h)

-- ---- what comes next is replayed from where the run stands
runs_by : (t u : Taping) (r : List ℕ) (s : Bool) → u.run ≡ replayed t.run r → (choose s t u).run ≡ replayed t.run (choose s [] r)
unfolding choose
runs_by t u r true e = sym (replay_nothing t.run)
runs_by t u r false e = e

pub runs_its_bytes : RunsItsBytes
unfolding fed end_told went_through
runs_its_bytes t (a_block b) = runs_by t _ (whole_in (held_in t ++ b)) (block_rests t b) refl
runs_its_bytes t an_end = runs_by t _ (held_in t) (end_rests t) refl

-- ---- after a stop, after an end, nothing moves the tape
data Rests (t : Taping) : Type 0 where
  after_stop : has_stopped t.run ≡ true → Rests t
  after_end : has_stopped t.run ≡ false → t.ended ≡ true → Rests t

fed_rests : (t : Taping) (b : List ℕ) → Rests t → fed t b ≡ t
fed_rests t b (after_stop e) = fed_stopped t b e
fed_rests t b (after_end s e) = fed_ended t b s e

told_rests : (t : Taping) → Rests t → end_told t ≡ t
told_rests t (after_stop e) = sym (told_stopped t e)
told_rests t (after_end s e) = sym (told_ended t s e)

came_rests : (t : Taping) (cs : List Coming) → Rests t → came_all t cs ≡ t
unfolding came_all
came_rests t [] e = refl
came_rests t (a_block b ∷ cs) e = ap (λ u. came_all u cs) (fed_rests t b e) ∙ came_rests t cs e
came_rests t (an_end ∷ cs) e = ap (λ u. came_all u cs) (told_rests t e) ∙ came_rests t cs e

pub stop_rests : StopRests
stop_rests t cs e = came_rests t cs (after_stop e)

pub stop_repeats : StopRepeats
stop_repeats t block e = sym (feed_stopped t block e)

ended_rests : (t : Taping) → t.ended ≡ true → Rests t
ended_rests t e = by (has_stopped t.run) refl
  where
    by : (s : Bool) → has_stopped t.run ≡ s → Rests t
    by true s = after_stop s
    by false s = after_end s e

-- what an end leaves has stopped, or has ended
end_is : (t : Taping) → Rests (end_told t)
end_is t = by (has_stopped t.run) t.ended refl refl
  where
    by : (s e : Bool) → has_stopped t.run ≡ s → t.ended ≡ e → Rests (end_told t)
    by true e p q = subst Rests (told_stopped t p) (after_stop p)
    by false true p q = subst Rests (told_ended t p q) (after_end p q)
    by false false p q = subst Rests (told_goes t p _ q refl) (ended_rests (taping_with (replayed t.run (held_in t)) [] true) refl)

pub end_rests_lem : EndRests
end_rests_lem t cs = came_rests (end_told t) cs (end_is t)

-- ---- a block more
stopped_there : (v : Running) (a : List ℕ) → has_stopped (replayed v (whole_in a)) ≡ true → Rests (went_through v a)
unfolding went_through
stopped_there v a e = after_stop e

went_dropped : (v : Running) (a : List ℕ) → has_stopped (replayed v (whole_in a)) ≡ true → went_through v a ≡ begun (replayed v (whole_in a))
unfolding went_through choose
went_dropped v a e = rw e

pub fed_joins : (v : Running) (a b : List ℕ) → fed (went_through v a) b ≡ went_through v (a ++ b)
fed_joins v a b = by (has_stopped (replayed v (whole_in a))) refl
  where
    by : (s : Bool) → has_stopped (replayed v (whole_in a)) ≡ s → fed (went_through v a) b ≡ went_through v (a ++ b)
    by true e =
        fed_rests (went_through v a) b (stopped_there v a e) ∙ went_dropped v a e
        ∙ sym (went_stopped_lem (replayed v (whole_in a)) e (rest_in a ++ b)) ∙ sym (went_on_lem v a b)
    by false e = ap (λ t. fed t b) (went_holds v a e) ∙ fed_behind (replayed v (whole_in a)) (rest_in a) b e (rest_short a) ∙ sym (went_on_lem v a b)

pub all_joins : (v : Running) (a : List ℕ) (bs : List (List ℕ)) → fed_all (went_through v a) bs ≡ went_through v (a ++ joined bs)
unfolding fed_all
all_joins v a [] = ap (went_through v) (sym (append-nil a))
all_joins v a (b ∷ bs) =
    ap (λ t. fed_all t bs) (fed_joins v a b) ∙ all_joins v (a ++ b) bs ∙ ap (went_through v) (append_assoc a b (joined bs))

-- a tape that begins has gone through no bytes
pub begun_went : (v : Running) → begun v ≡ went_through v []
begun_went v = by (has_stopped v) refl
  where
    by : (s : Bool) → has_stopped v ≡ s → begun v ≡ went_through v []
    by true e = sym (went_stopped_lem v e [])
    by false e = sym (short_held v [] e (omega arith))

pub so_far : SoFar
so_far v bs = ap (λ t. fed_all t bs) (begun_went v) ∙ all_joins v [] bs

-- ---- the end
told_went : (v : Running) (a : List ℕ) → (end_told (went_through v a)).run ≡ replayed v a
told_went v a = by (has_stopped (replayed v (whole_in a))) refl
  where
    whole : replayed (replayed v (whole_in a)) (rest_in a) ≡ replayed v a
    whole = sym (replay_joins v (whole_in a) (rest_in a) (whole_is a)) ∙ ap (replayed v) (whole_rest a)

    by : (s : Bool) → has_stopped (replayed v (whole_in a)) ≡ s → (end_told (went_through v a)).run ≡ replayed v a
    by true e =
        ap (λ t. t.run) (told_rests (went_through v a) (stopped_there v a e) ∙ went_dropped v a e)
        ∙ sym (replay_stopped (replayed v (whole_in a)) e (rest_in a)) ∙ whole
    by false e =
        ap (λ t. (end_told t).run) (went_holds v a e)
        ∙ ap (λ t. t.run) (sym (told_goes (taping_with (replayed v (whole_in a)) (rest_in a) false) e _ refl refl))
        ∙ ap (replayed (replayed v (whole_in a))) (held_back (rest_in a) (rest_short a)) ∙ whole

pub any_cuts : AnyCuts
any_cuts v bs = ap (λ t. (end_told t).run) (so_far v bs) ∙ told_went v (joined bs)

-- blocks alone, then more
pub blocks_then : (t : Taping) (bs : List (List ℕ)) (cs : List Coming) → came_all t (blocks_of bs ++ cs) ≡ came_all (fed_all t bs) cs
unfolding came_all fed_all
blocks_then t [] cs = refl
blocks_then t (b ∷ bs) cs = blocks_then (fed t b) bs cs

came_end : (t : Taping) (cs : List Coming) → came_all t (an_end ∷ cs) ≡ end_told t
unfolding came_all
came_end t cs = end_rests_lem t cs

pub any_cuts_then_any : AnyCutsThenAny
any_cuts_then_any v bs cs =
    ap (λ t. t.run) (blocks_then (begun v) bs (an_end ∷ cs) ∙ came_end (fed_all (begun v) bs) cs) ∙ any_cuts v bs

pub short_waits : ShortWaits
short_waits v bs h = ap (λ t. t.run) (so_far v bs) ∙ went_short v (joined bs) (omega arith)
