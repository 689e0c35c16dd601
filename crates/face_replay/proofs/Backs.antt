-- What is handed back for numbers that came says what holds, and is number for number what came where nothing changed. Assumes nothing.
--     state_said, run_said         what is handed back says the state, the run
--     state_back_lem, run_back_lem         one that has not changed comes back number for number
--     stopped_as_it_came           so a run that had stopped
--     none_accepted                records of which none is accepted change no state and no buffer
--     state_as_it_came             so the state comes back number for number
--     running_said_lem                 what is handed back, with both buffers, says the replay in its course
--     replay_run_said, replay_state_said     of any result that the promise of `cattlecleat_replay` allows
use Rattle.std.specs.Prelude.{Option, None, Some, is_some}
use Rattle.std.specs.Bool.{then_some}
use mathlib.Core.Path.{◌≡◌, refl, sym, ap, ◌∙◌}
use mathlib.Core.Bool.{Bool, true, false, not, false≢true}
use mathlib.Core.List.{List, [], ◌∷◌}
use Prim.Native.Nat.{ℕ, ◌≤◌}
use borrow.Author.Tests.{ltb-false, eqb-true, eq-eqb}
use Rattle.std.specs.Prelude.{Ok, Err}
use Rattle.choice.proofs.Bools.{neither, held_passes}
use Rattle.choice.proofs.Choices.{chosen_where, chosen_first}
use Rattle.regs.specs.Convert.{truth_of}
use Rattle.rules.specs.declared.Asked.TheVariants.{Traced}
use Rattle.rules.specs.World.{World, world_of}
use Rattle.rules.proofs.Verdicts.{refused_unchanged}
use Rattle.request.specs.Requests.{Decoded}
use Rattle.request.specs.Entries.{entries_in}
use Rattle.replay.specs.Running.{Running, ShownRan, answer_to, running_of, run_of, ran, ran_all, replayed}
use Rattle.replay.proofs.Spent.{RanVerdict, had_stopped, stops_before, goes_on, ran_verdict, stop_stays}
use Rattle.face.specs.States.{state_from}
use Rattle.face.proofs.Handed.{given_kept}
use Rattle.face_replay.specs.declared.flagged.Flagged.{Flagged}
use Rattle.face_replay.specs.declared.traces.CRun.{CRun}
use Rattle.face_replay.specs.Flags.{current_in, is_said, says, flagged_back, state_back, StateSaid, StateBack}
use Rattle.face_replay.specs.Runs.{RunTold, run_told, stop_in, running_from, running_back, RunSaid, RunBack, StoppedAsItCame}
use Rattle.face_replay.specs.Runs.{was_accepted, any_accepted, StateAsItCame}
use Rattle.face_replay.proofs.traces.cattlecleat_replay.Reads as replays

-- ---- a flag and the number beside it

abbrev said_by : Flagged → Option ℕ
said_by f = then_some (truth_of f.flag) f.number

-- what they are found to say, they say; by the flag's truth
found_by : (t : Bool) (n : ℕ) (g : Option ℕ) → is_said t n g ≡ true → then_some t n ≡ g
found_by true n None e = absurd (false≢true e)
found_by false n None e = refl
found_by true n (Some m) e = ap Some (eqb-true n m e)
found_by false n (Some m) e = absurd (false≢true e)

-- and the other way about
said_by_lem : (t : Bool) (n : ℕ) → is_said t n (then_some t n) ≡ true
said_by_lem true n = eq-eqb n n refl
said_by_lem false n = refl

flagged_said : (f : Flagged) (g : Option ℕ) → said_by (flagged_back f g) ≡ g
unfolding flagged_back
flagged_said f g =
    chosen_where (λ x. said_by x ≡ g) (says f g) _ _ (found_by (truth_of f.flag) f.number g) (λ e. given_kept g)

flagged_back_lem : (f : Flagged) → flagged_back f (said_by f) ≡ f
unfolding flagged_back
flagged_back_lem f = sym (chosen_first _ _ _ _ _ (said_by_lem (truth_of f.flag) f.number) refl)

-- ---- a state, and a run

pub state_said : StateSaid
state_said c s = λ i. record {
  depth = s.depth;
  height = s.height;
  words = s.words;
  cells = s.cells;
  count = s.count;
  len = s.len;
  current = flagged_said (current_in c) s.current i;
  regs = s.regs;
}

pub state_back_lem : StateBack
state_back_lem c = λ i. record {
  depth = c.depth;
  height = c.height;
  words = c.words;
  cells = c.cells;
  count = c.count;
  len = c.len;
  currentflag = (flagged_back_lem (current_in c) i).flag;
  current = (flagged_back_lem (current_in c) i).number;
  regs = c.regs;
}

pub run_said : RunSaid
run_said c r = λ i. record {
  state = state_said c.state r.state i;
  number = r.number;
  fuel = r.fuel;
  spent = r.spent;
  stop = flagged_said (stop_in c) r.stop i;
}

pub run_back_lem : RunBack
run_back_lem c = λ i. record {
  state = state_back_lem c.state i;
  number = c.number;
  fuel = c.fuel;
  spent = c.spent;
  stopflag = (flagged_back_lem (stop_in c) i).flag;
  cost = (flagged_back_lem (stop_in c) i).number;
}

pub stopped_as_it_came : StoppedAsItCame
unfolding replayed
stopped_as_it_came c words cells bytes stopped =
    let v = running_from c words cells in
    let given : is_some v.stop ≡ true = ap (λ t. is_some (then_some t c.cost)) stopped in
    ap (running_back c) (stop_stays v (entries_in bytes) given) ∙ ap (λ r. run_told r words cells) (run_back_lem c)

-- ---- where no record is accepted

refused_world : (w : World) (d : Decoded) → 2 ≤ (answer_to w d).shown.number → (answer_to w d).world ≡ w
refused_world w (Ok q) two = (refused_unchanged w (Traced q) two).0
refused_world w (Err e) two = refl

-- one record, by its cases
record_refused : {v : Running} {d : Decoded} {x : ShownRan} {costs : List ℕ} → RanVerdict v d x costs → was_accepted x ≡ false → x.run.world ≡ v.world
record_refused (had_stopped e) none = refl
record_refused (stops_before e h) none = refl
record_refused {v = v} {d = d} (goes_on e h) none =
    refused_world v.world d (ltb-false _ _ (held_passes (not (is_some v.stop)) _ none (ap not e)))

pub none_accepted : (v : Running) (ds : List Decoded) → any_accepted v ds ≡ false → (ran_all v ds).world ≡ v.world
unfolding ran_all any_accepted
none_accepted v [] none = refl
none_accepted v (d ∷ ds) none =
    let each = neither (was_accepted (ran v d)) (any_accepted (ran v d).run ds) none in
    none_accepted (ran v d).run ds each.1 ∙ record_refused (ran_verdict v d) each.0

pub state_as_it_came : StateAsItCame
unfolding replayed
state_as_it_came c words cells bytes none =
    let same = none_accepted (running_from c words cells) (entries_in bytes) none in (
      ap (λ (w : World). state_back c.state w.state) same ∙ state_back_lem c.state,
      (ap (λ (w : World). w.words) same, ap (λ (w : World). w.cells) same),
    )

-- ---- of any result that the promise allows

abbrev pub running_said : RunTold → Running
running_said t = running_from t.run t.words t.cells

pub running_said_lem : (c : CRun) (v : Running) → running_said (running_back c v) ≡ v
running_said_lem c v = ap (λ r. running_of r v.world.words v.world.cells) (run_said c (run_of v))

-- the numbers handed back say the replay of the trace from what the numbers that came say
pub replay_run_said : (κ : _) (a : _) (r : CRun) (e : _) → replays.Post κ a r e
    → running_from r e.1.0.now e.1.1.0.now
    ≡ replayed (running_from a.0 a.1.0.now a.1.1.0.now) a.1.1.1.0.now
replay_run_said κ a r e p =
    ap running_said p ∙ running_said_lem a.0 (replayed (running_from a.0 a.1.0.now a.1.1.0.now) a.1.1.1.0.now)

-- and so the state with both buffers says the world
pub replay_state_said : (κ : _) (a : _) (r : CRun) (e : _) → replays.Post κ a r e
    → world_of (state_from r.state) e.1.0.now e.1.1.0.now
    ≡ (replayed (running_from a.0 a.1.0.now a.1.1.0.now) a.1.1.1.0.now).world
replay_state_said κ a r e p = ap (λ (v : Running). v.world) (replay_run_said κ a r e p)
