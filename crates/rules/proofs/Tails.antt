-- Tail calls keep the depth, the start and the older frames, proved: one step for each event, and steps one after another. Assumes nothing.
--     TailState A other w        the frame's debt is empty, with A current; or, once another was named, it is A, with some instance current
--     TailStep w qs v            what follows of a run with the accepted replaces qs, from the world w to v
--     event_step, run_step       of one event, and of a run
--     tails_theorem              T-13
use Rattle.std.specs.Prelude.{Option, None, Some, is_some}
use Rattle.std.specs.Option.{option_or}
use mathlib.Core.Path.{◌≡◌, refl, sym, ap, subst, ◌∙◌}
use mathlib.Core.Bool.{Bool, true, false, not, ◌||◌, true≢false, false≢true}
use mathlib.Core.Logic.{◌↔◌}
use mathlib.Core.List.{List, [], ◌∷◌, ◌++◌, append_assoc}
use Prim.Native.Nat.{ℕ, max, ◌-◌, ◌<◌, ◌≤◌}
use native.Mathlib.Omega.{arith}
use lib.Dec.{eqb}
use borrow.Author.Tests.{lt-ltb, le-ltb, eqb-true, eqb-false}
use Rattle.choice.specs.Choose.{choose}
use Rattle.choice.specs.Tests.{Passed}
use Rattle.regs.specs.declared.registers.Registers.{Registers}
use Rattle.frames.specs.declared.row.Row.{Row}
use Rattle.frames.specs.Debts.{debt_of, owing_of, carried_of}
use Rattle.frames.proofs.Rows.{row_same, row_other}
use Rattle.frames.proofs.Debts.{new_start, new_debt, ip_debt, owing_unnamed, owing_other, owing_same, carried_kept, carried_none}
use Rattle.rules.specs.declared.ReplaceArgs.{ReplaceArgs}
use Rattle.rules.specs.declared.Request.{Request}
use Rattle.rules.specs.declared.Request.TheVariants.{Push, Pop, Replace, Host, ReturnHost, Sync, Restore, Reset, Set}
use Rattle.rules.specs.declared.Asked.{Asked}
use Rattle.rules.specs.declared.Asked.TheVariants.{Traced, SyncRegs, HostPart}
use Rattle.rules.specs.World.{World, frame_at, top_frame, top_start}
use Rattle.rules.specs.Answers.{After}
use Rattle.rules.specs.Shared.{grown_to}
use Rattle.rules.specs.Calls.{replace_tests, replace_room, replaced}
use Rattle.rules.specs.Returns.{popped}
use Rattle.rules.specs.Hosts.{returned_host}
use Rattle.rules.specs.Syncs.{sync_tests, top_room, synced, restored, set_room, cell_set, registers_stored}
use Rattle.rules.specs.Rules.{tests_of, effect_of, answered}
use Rattle.rules.specs.Events.{Event, asks, registers_put, host_wrote, stepped_by, ran_through}
use Rattle.rules.specs.Returning.{Gives, by_pop, by_host}
use Rattle.rules.specs.Tails.{TailEvent, tail_replace, tail_sync, tail_set, tail_restore, tail_registers, tail_put, AllTails, replace_asked}
use Rattle.rules.specs.Tails.{accepted_by, accepted_replaces, end_of, ends_of, greatest, names_other, other_named}
use Rattle.rules.specs.Tails.{TailsKept, NothingOwed, DebtKept, TailsTheorem}
use Rattle.rules.proofs.Verdicts.{AskedVerdict, accepted, refused, asked_verdict, accepted_then, done_then}
use Rattle.rules.proofs.Unwinding.{given_either}
use Rattle.rules.proofs.Standing.{top_start_lem, top_there, stored_top, stored_below, debt_made_good}

-- ---- the debt and the current instance
data DebtIs (A : ℕ) : (other : Bool) (debt current : Option ℕ) → Type 0 where
  none_owed : DebtIs A false None (Some A)
  one_owed : (c : Option ℕ) → is_some c ≡ true → DebtIs A true (Some A) c

abbrev TailState : (A : ℕ) (other : Bool) → World → Type 0
TailState A other w = DebtIs A other (debt_of (top_frame w)) w.state.current

debt_same : {A : ℕ} {other : Bool} {debt c d e : Option ℕ} → d ≡ debt → e ≡ c → DebtIs A other debt c → DebtIs A other d e
debt_same {A} {other} {debt} {c} {d} {e} p q s = subst (λ g. DebtIs A other d g) (sym q) (subst (λ g. DebtIs A other g c) (sym p) s)

-- a replace that names an instance, or none
debt_carried : {A : ℕ} {other : Bool} {debt c : Option ℕ} → DebtIs A other debt c → (named : Option ℕ)
    → DebtIs A (other || names_other A named) (carried_of debt c named) (option_or named c)
debt_carried {A} (one_owed c t) named = debt_same (carried_kept c named A) refl (one_owed _ (given_either named c t))
debt_carried {A} none_owed None = debt_same (carried_none (Some A) None ∙ owing_unnamed (Some A)) refl none_owed
debt_carried {A} none_owed (Some B) = by (eqb A B) refl
  where
    by : (t : Bool) → eqb A B ≡ t → DebtIs A (not t) (carried_of None (Some A) (Some B)) (Some B)
    by true e =
        let same : B ≡ A = sym (eqb-true A B e) in
        debt_same (carried_none (Some A) (Some B) ∙ ap (λ n. owing_of (Some A) (Some n)) same ∙ owing_same A) (ap Some same) none_owed
    by false e = debt_same (carried_none (Some A) (Some B) ∙ owing_other A B (eqb-false A B e)) refl (one_owed (Some B) refl)

alone : (b : Bool) → b ≡ (b || false)
alone true = refl
alone false = refl

-- ---- steps
record TailStep (w : World) (qs : List ReplaceArgs) (v : World) : Type 0 where
  pub kept : TailsKept w qs v
  pub debt : (A : ℕ) (other : Bool) → TailState A other w → TailState A (other || other_named A qs) v

-- without a replace: the newest frame keeps its start and debt, and the rest stays
unmoved : (w v : World) → v.state.count ≡ w.state.count → top_start v ≡ top_start w → ((j : ℕ) → j < w.state.count - 1 → frame_at v j ≡ frame_at w j)
    → v.state.len ≡ w.state.len → debt_of (top_frame v) ≡ debt_of (top_frame w) → v.state.current ≡ w.state.current
    → TailStep w [] v
unfolding ends_of greatest other_named
unmoved w v depth start older len debt current = record {
  kept = record { same_depth = depth; same_start = start; older_frames = older; largest_len = len };
  debt = λ A other s. subst (λ b. TailState A b v) (alone other) (debt_same debt current s);
}

none_step : (w : World) → TailStep w [] w
none_step w = unmoved w w refl refl (λ j b. refl) refl refl refl

-- one after another
greatest_after : (ms ks : List ℕ) (n : ℕ) → greatest n (ms ++ ks) ≡ greatest (greatest n ms) ks
unfolding greatest
greatest_after [] ks n = refl
greatest_after (m ∷ ms) ks n = greatest_after ms ks (max n m)

greatest_join : (n : ℕ) (ms ks : List ℕ) → greatest n (ms ++ ks) ≡ greatest (greatest n ms) ks
greatest_join n ms ks = greatest_after ms ks n

ends_join : (s : ℕ) (ps qs : List ReplaceArgs) → ends_of s (ps ++ qs) ≡ ends_of s ps ++ ends_of s qs
unfolding ends_of
ends_join s [] qs = refl
ends_join s (p ∷ ps) qs = ap (λ ns. end_of s p ++ ns) (ends_join s ps qs) ∙ sym (append_assoc (end_of s p) (ends_of s ps) (ends_of s qs))

either_join : (a b c : Bool) → ((a || b) || c) ≡ (a || (b || c))
either_join true b c = refl
either_join false b c = refl

named_join : (A : ℕ) (ps qs : List ReplaceArgs) → other_named A (ps ++ qs) ≡ (other_named A ps || other_named A qs)
unfolding other_named
named_join A [] qs = refl
named_join A (p ∷ ps) qs =
    ap (λ b. names_other A p.instance || b) (named_join A ps qs)
    ∙ sym (either_join (names_other A p.instance) (other_named A ps) (other_named A qs))

step_then : (w : World) (ps : List ReplaceArgs) (u : World) (qs : List ReplaceArgs) (v : World) → TailStep w ps u → TailStep u qs v → TailStep w (ps ++ qs) v
step_then w ps u qs v first later =
    let depth = first.kept.same_depth in
    record {
      kept = record {
        same_depth = later.kept.same_depth ∙ depth;
        same_start = later.kept.same_start ∙ first.kept.same_start;
        older_frames = λ j b. later.kept.older_frames j (omega arith) ∙ first.kept.older_frames j b;
        largest_len =
            later.kept.largest_len
            ∙ ap (λ n. greatest n (ends_of (top_start u) qs)) first.kept.largest_len
            ∙ ap (λ s. greatest (greatest w.state.len (ends_of (top_start w) ps)) (ends_of s qs)) first.kept.same_start
            ∙ sym (greatest_join w.state.len (ends_of (top_start w) ps) (ends_of (top_start w) qs))
            ∙ sym (ap (greatest w.state.len) (ends_join (top_start w) ps qs));
      };
      debt = λ A other s.
          subst (λ b. TailState A b v) (either_join other (other_named A ps) (other_named A qs) ∙ ap (λ b. other || b) (sym (named_join A ps qs)))
          (later.debt A _ (first.debt A other s));
    }

-- ---- what is asked, where it is accepted
some_frame : (w : World) → eqb w.state.count 0 ≡ false → 0 < w.state.count
some_frame w e = let none = eqb-false w.state.count 0 e in omega arith

module _ (w : World) where
  sync_step : (ip : ℕ) → Passed (sync_tests w) → TailStep w [] (effect_of w (Traced (Sync ip))).world
  unfolding sync_tests top_room synced
  sync_step ip p =
      let some = some_frame w p.1.0 in
      let top = stored_top w p.0 some ip in
      unmoved w _ refl
      (top_start_lem (effect_of w (Traced (Sync ip))).world some ∙ ap (λ (x : Row). x.start) top ∙ sym (top_start_lem w some))
      (stored_below w (Some ip))
      refl
      (ap debt_of top ∙ ip_debt (top_frame w) ip)
      refl

  grew : (q : ReplaceArgs) → (effect_of w (Traced (Replace q))).world.state.len ≡ greatest w.state.len (ends_of (top_start w) (q ∷ []))
  unfolding replace_room replaced grown_to ends_of greatest choose
  grew q = by (eqb q.slots 0) refl
    where
      by : (b : Bool) → eqb q.slots 0 ≡ b → (effect_of w (Traced (Replace q))).world.state.len ≡ greatest w.state.len (ends_of (top_start w) (q ∷ []))
      by true e = let none = eqb-true q.slots 0 e in rw (e, le-ltb 0 q.slots (omega arith)) (omega arith)
      by false e = let some = eqb-false q.slots 0 e in rw (e, lt-ltb 0 q.slots (omega arith)) (omega arith)

  replace_step : (q : ReplaceArgs) → Passed (replace_tests w q) → TailStep w (q ∷ []) (effect_of w (Traced (Replace q))).world
  unfolding replace_tests replace_room replaced other_named
  replace_step q p =
      let some = some_frame w p.1.0 in
      let top = row_same w.state.depth w.words (w.state.count - 1) _ (top_there w p.0 some) in
      record {
        kept = record {
          same_depth = refl;
          same_start = top_start_lem (effect_of w (Traced (Replace q))).world some ∙ ap (λ (x : Row). x.start) top ∙ new_start q.callee _ _;
          older_frames = λ j b. row_other w.state.depth w.words (w.state.count - 1) _ j (λ e. omega arith);
          largest_len = grew q;
        };
        debt = λ A other s.
            subst (λ b. TailState A (other || b) (effect_of w (Traced (Replace q))).world) (alone (names_other A q.instance))
            (debt_same (ap debt_of top ∙ new_debt q.callee _ _) refl (debt_carried s q.instance));
      }

  set_step : (head cell : ℕ) → TailStep w [] (effect_of w (Traced (Set head cell))).world
  unfolding set_room cell_set
  set_step head cell = unmoved w _ refl refl (λ j b. refl) refl refl refl

  restore_step : TailStep w [] (effect_of w (Traced Restore)).world
  unfolding restored
  restore_step = none_step w

  registers_step : (regs : Registers) → TailStep w [] (effect_of w (SyncRegs regs)).world
  unfolding registers_stored
  registers_step regs = unmoved w _ refl refl (λ j b. refl) refl refl refl

  put_step : (regs : Registers) → TailStep w (accepted_by w (registers_put regs)) (stepped_by w (registers_put regs))
  unfolding accepted_by stepped_by
  put_step regs = unmoved w _ refl refl (λ j b. refl) refl refl refl

  -- ---- or refused
  took : (a : Asked) → (answered w a).shown.number < 2 → accepted_by w (asks a) ≡ replace_asked a
  unfolding accepted_by choose
  took a small = rw (lt-ltb (answered w a).shown.number 2 small) refl

  took_none : (a : Asked) → 2 ≤ (answered w a).shown.number → accepted_by w (asks a) ≡ []
  unfolding accepted_by choose
  took_none a large = rw (le-ltb (answered w a).shown.number 2 large) refl

  asked_step : (a : Asked) → (Passed (tests_of w a) → TailStep w (replace_asked a) (effect_of w a).world)
      → TailStep w (accepted_by w (asks a)) (stepped_by w (asks a))
  unfolding stepped_by
  asked_step a done = by (asked_verdict w a)
    where
      by : AskedVerdict w a → TailStep w (accepted_by w (asks a)) (answered w a).world
      by (accepted p e) =
          subst (λ qs. TailStep w qs (answered w a).world) (sym (took a ((accepted_then w a).1 p)))
          (subst (λ (t : After). TailStep w (replace_asked a) t.world) (sym e) (done p))
      by (refused n p two e) =
          let number : (answered w a).shown.number ≡ n = ap (λ (t : After). t.shown.number) e in
          subst (λ qs. TailStep w qs (answered w a).world) (sym (took_none a (omega arith)))
          (subst (λ (t : After). TailStep w [] t.world) (sym e) (none_step w))

  event_step : (e : Event) → TailEvent e → TailStep w (accepted_by w e) (stepped_by w e)
  event_step (asks (Traced (Replace q))) (tail_replace q') = asked_step _ (replace_step q)
  event_step (asks (Traced (Sync ip))) (tail_sync ip') = asked_step _ (sync_step ip)
  event_step (asks (Traced (Set head cell))) (tail_set head' cell') = asked_step _ (λ p. set_step head cell)
  event_step (asks (Traced Restore)) tail_restore = asked_step _ (λ p. restore_step)
  event_step (asks (SyncRegs regs)) (tail_registers regs') = asked_step _ (λ p. registers_step regs)
  event_step (registers_put regs) (tail_put regs') = put_step regs
  event_step (asks (Traced (Push _))) h = elim h [ ]
  event_step (asks (Traced (Pop _))) h = elim h [ ]
  event_step (asks (Traced (Host _))) h = elim h [ ]
  event_step (asks (Traced (ReturnHost _))) h = elim h [ ]
  event_step (asks (Traced Reset)) h = elim h [ ]
  event_step (asks (HostPart _)) h = elim h [ ]
  event_step (host_wrote _ _) h = elim h [ ]

-- ---- a run
run_step : (w : World) (es : List Event) → AllTails es → TailStep w (accepted_replaces w es) (ran_through w es)
unfolding accepted_replaces ran_through
run_step w [] all = none_step w
run_step w (e ∷ es) all = step_then w _ (stepped_by w e) _ _ (event_step w e all.0) (run_step (stepped_by w e) es all.1)

-- ---- the debt, and one return
empty_then : {A : ℕ} {other : Bool} {debt c : Option ℕ} → DebtIs A other debt c → debt ≡ None ↔ other ≡ false
empty_then none_owed = (λ e. refl, λ e. refl)
empty_then (one_owed c t) = (λ e. absurd (true≢false (ap is_some e)), λ e. absurd (true≢false e))

owed_then : {A : ℕ} {other : Bool} {debt c : Option ℕ} → DebtIs A other debt c → debt ≡ Some A ↔ other ≡ true
owed_then none_owed = (λ e. absurd (false≢true (ap is_some e)), λ e. absurd (false≢true e))
owed_then (one_owed c t) = (λ e. refl, λ e. refl)

made_good : {A : ℕ} {other : Bool} {debt c : Option ℕ} → DebtIs A other debt c → option_or debt c ≡ Some A
made_good none_owed = refl
made_good (one_owed c t) = refl

left_current : (v : World) (r : Request) (i : ℕ) → Gives r i → 1 < v.state.count
    → (effect_of v (Traced r)).world.state.current ≡ option_or (debt_of (top_frame v)) v.state.current
unfolding popped returned_host
left_current v (Pop instance) i (by_pop j) more = debt_made_good v.state (top_frame v) more
left_current v (ReturnHost q) i (by_host u) more = debt_made_good v.state (top_frame v) more
left_current v (Push _) i g more = elim g [ ]
left_current v (Replace _) i g more = elim g [ ]
left_current v (Host _) i g more = elim g [ ]
left_current v (Sync _) i g more = elim g [ ]
left_current v Restore i g more = elim g [ ]
left_current v Reset i g more = elim g [ ]
left_current v (Set _ _) i g more = elim g [ ]

debt_kept : (w : World) (A : ℕ) (qs : List ReplaceArgs) (v : World) → TailStep w qs v → NothingOwed w A → DebtKept w A qs v
debt_kept w A qs v step h =
    let state = step.debt A false (debt_same h.no_debt h.has_instance none_owed) in
    let depth = step.kept.same_depth in
    record {
      empty_while = empty_then state;
      owed_since = owed_then state;
      owed_on = λ other fs all. (owed_then ((run_step v fs all).debt A _ state)).1 (ap (λ b. b || other_named A (accepted_replaces v fs)) other);
      return_restores = λ more r i gives ok.
          ap (λ (t : After). t.world.state.current) (done_then v (Traced r) ((accepted_then v (Traced r)).0 ok))
          ∙ left_current v r i gives (omega arith)
          ∙ made_good state;
    }

pub tails_theorem : TailsTheorem
tails_theorem w es all = let step = run_step w es all in (step.kept, λ A h. debt_kept w A _ _ step h)
