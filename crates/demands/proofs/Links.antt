-- From links to the definitions: a history is the run of its events. Assumes nothing.
--     records_ran, records_above         a trace, as far as it was run
--     link_ran, link_above           one link
--     history_ran, history_above     a history ends where its events lead, and the depth is never below
--     ran_join                       events one after another
use Rattle.std.specs.Prelude.{is_some, Ok, Err}
use mathlib.Core.Path.{◌≡◌, refl, sym, ap, subst, ◌∙◌}
use mathlib.Core.Bool.{Bool, true, false}
use mathlib.Core.List.{List, [], ◌∷◌, ◌++◌}
use Prim.Native.Nat.{ℕ, ◌≤◌}
use native.Mathlib.Omega.{arith}
use lib.Dec.{leb, ltb}
use lib.ListN.{length}
use Rattle.std.specs.Prelude.{Result}
use Rattle.choice.specs.Choose.{choose}
use Rattle.rules.specs.World.{World}
use Rattle.rules.specs.Answers.{After, refused_with}
use Rattle.rules.specs.Events.{Event, stepped_by, ran_through}
use Rattle.rules.specs.Returning.{NeverBelow}
use Rattle.request.specs.Requests.{Decoded}
use Rattle.request.specs.Entries.{record_count, entry_at, entries_in}
use Rattle.replay.specs.Running.{Running, running_of, ShownRan, stopped_before, answer_to, ran, ran_all, replayed}
use Rattle.replay.specs.Turns.{ShownTurn, turn_at}
use Rattle.replay.specs.Resumed.{DepthKept}
use Rattle.replay.proofs.Spent.{RanVerdict, had_stopped, stops_before, goes_on, ran_verdict, record_cost, record_ran, stop_stays}
use Rattle.tape.specs.Tapes.{Taping, taping_of, ShownFed}
use Rattle.tape.specs.AnyCuts.{bytes_run}
use Rattle.tape.proofs.AnyCuts.{runs_its_bytes}
use Rattle.listing.specs.Blocks.{block_room, ListedBlock, block_listed}
use Rattle.listing.specs.declared.taped.LinesError.{LinesError}
use Rattle.listing.specs.Taped.{ShownLines, fed_lines_number}
use Rattle.listing.proofs.Written.{fed_verdict, feed_unmoved, end_verdict, end_unmoved}
use Rattle.listing.proofs.list_feed.Reads as list-feeds
use Rattle.listing.proofs.list_finish.Reads as list-finishes
use Rattle.face_ask.specs.Told.{ToldAnswer, after_told}
use Rattle.face_replay.specs.Runs.{running_from}
use Rattle.face_replay.proofs.Backs.{replay_run_said}
use Rattle.demands.specs.Heard.{world_said}
use Rattle.demands.specs.Links.{events_by, events_ran, entries_here, entries_listed, Link, asked, by_host_store, by_routine, none_asked}
use Rattle.demands.specs.Links.{entries_coming, put_in_place, by_cattlecleat_replay, by_replay, by_run_record, by_run_next, by_list_block}
use Rattle.demands.specs.Links.{came_next, no_room_to_feed, no_room_to_finish}
use Rattle.demands.specs.Links.{History, history_end, link_then}
use Rattle.demands.proofs.Taken.{taken_is, answer_leaves}
use Rattle.demands.proofs.Heard.{answer_said, numbers_said, heard_answered, part_step, routine_ran}

-- ---- a trace
module _ (d : Decoded) (ds : List Decoded) where
  one_ran : {v : Running} {x : ShownRan} {costs : List ℕ} → RanVerdict v d x costs
      → (ran_all x.run ds).world ≡ ran_through x.run.world (events_ran x.run ds)
      → (ran_all x.run ds).world ≡ ran_through v.world (choose (is_some x.run.stop) [] (events_by d (events_ran x.run ds)))
  unfolding choose ran_through stepped_by
  one_ran {v} (had_stopped e) rest = rw e (ap (λ u. u.world) (stop_stays v ds e))
  one_ran {v} (stops_before e k) rest = ap (λ u. u.world) (stop_stays (stopped_before v (record_cost v d)) ds refl)
  one_ran {v} (goes_on e k) rest = rw e (rest ∙ first d)
    where
      first : (c : Decoded) → ran_through (answer_to v.world c).world (events_ran (record_ran v d).run ds)
          ≡ ran_through v.world (events_by c (events_ran (record_ran v d).run ds))
      first (Ok q) = refl
      first (Err e) = refl

pub records_ran : (v : Running) (ds : List Decoded) → (ran_all v ds).world ≡ ran_through v.world (events_ran v ds)
unfolding ran_all ran_through events_ran
records_ran v [] = refl
records_ran v (d ∷ ds) = one_ran d ds (ran_verdict v d) (records_ran (ran v d).run ds)

module _ (n : ℕ) (d : Decoded) (ds : List Decoded) where
  one_above : {v : Running} {x : ShownRan} {costs : List ℕ} → RanVerdict v d x costs → n ≤ v.world.state.count
      → NeverBelow n x.run.world (events_ran x.run ds)
      → NeverBelow n v.world (choose (is_some x.run.stop) [] (events_by d (events_ran x.run ds)))
  unfolding choose stepped_by
  one_above {v} (had_stopped e) deep rest = rw e deep
  one_above {v} (stops_before e k) deep rest = deep
  one_above {v} (goes_on e k) deep rest = rw e (first d rest)
    where
      first : (c : Decoded) → NeverBelow n (answer_to v.world c).world (events_ran (record_ran v d).run ds)
          → NeverBelow n v.world (events_by c (events_ran (record_ran v d).run ds))
      first (Ok q) above = (deep, above)
      first (Err e) above = above

pub records_above : (n : ℕ) (v : Running) (ds : List Decoded) → DepthKept n v ds → NeverBelow n v.world (events_ran v ds)
unfolding events_ran
records_above n v [] above = above
records_above n v (d ∷ ds) above = one_above n d ds (ran_verdict v d) above.0 (records_above n (ran v d).run ds above.1)

-- ---- links

replay_ran : (v : Running) (bytes : List ℕ) → (replayed v bytes).world ≡ ran_through v.world (events_ran v (entries_in bytes))
unfolding replayed
replay_ran v bytes = records_ran v (entries_in bytes)

record_ran_lem : (v : Running) (c : Decoded) → (ran v c).run.world ≡ ran_through v.world (events_ran v (c ∷ []))
unfolding ran_all
record_ran_lem v c = records_ran v (c ∷ [])

turn_ran : (v : Running) (bytes : List ℕ) (at : ℕ) → (turn_at v bytes at).turned.run.world ≡ ran_through v.world (events_ran v (entries_here bytes at))
unfolding choose turn_at ran_through events_ran
turn_ran v bytes at = by (leb (length bytes) at) refl
  where
    by : (b : Bool) → leb (length bytes) at ≡ b → (turn_at v bytes at).turned.run.world ≡ ran_through v.world (events_ran v (entries_here bytes at))
    by true e = rw e refl
    by false e = rw e (record_ran_lem v (entry_at bytes at))

-- a block without room for its lines is not run
block_ran : (v : Running) (bytes out : List ℕ) → (block_listed v bytes out).run.world ≡ ran_through v.world (events_ran v (entries_listed bytes out))
unfolding choose block_listed ran_through events_ran
block_ran v bytes out = by (ltb (length out) (block_room (record_count (length bytes)))) refl
  where
    by : (b : Bool) → ltb (length out) (block_room (record_count (length bytes))) ≡ b
        → (block_listed v bytes out).run.world ≡ ran_through v.world (events_ran v (entries_listed bytes out))
    by true e = rw e refl
    by false e = rw e (replay_ran v bytes)

-- without room nothing moves
unfed : (κ : _) (a : _) (r : Result ℕ LinesError) (e : _) → list-feeds.Post κ a r e → fed_lines_number r ≡ 19
    → taping_of e.0.now e.1.0.now e.1.1.0.now ≡ taping_of a.0.now a.1.0.now a.1.1.0.now
unfed κ a r e p none =
    let number = ap (λ (s : ShownLines). s.number) p in
    ap (λ (s : ShownLines). s.tape) p ∙ (feed_unmoved _ _ _ (fed_verdict _ _ _) (let is = sym number ∙ none in omega arith)).0

untold : (κ : _) (a : _) (r : Result ℕ LinesError) (e : _) → list-finishes.Post κ a r e → fed_lines_number r ≡ 19
    → taping_of e.0.now e.1.0.now e.1.1.0.now ≡ taping_of a.0.now a.1.0.now a.1.1.0.now
untold κ a r e p none =
    let number = ap (λ (s : ShownLines). s.number) p in
    ap (λ (s : ShownLines). s.tape) p ∙ (end_unmoved _ _ (end_verdict _ _) (let is = sym number ∙ none in omega arith)).0

pub link_ran : {d : ℕ} {w u : World} {es : List Event} → Link d w es u → u ≡ ran_through w es
unfolding stepped_by ran_through
link_ran (asked w a t heard) = ap (λ (t : After). t.world) (heard_answered heard)
link_ran (by_host_store w at values) = refl
link_ran (by_routine w f t told) = routine_ran told
link_ran (none_asked κ a r e p none) =
    let w = world_said a.0 a.1.0.now a.1.1.0.now in
    ap (λ (t : ToldAnswer). (answer_said t).world) p
    ∙ ap (λ c. (answer_said (after_told a.0 (answer_to w c))).world) none
    ∙ ap (λ (t : After). t.world) (numbers_said a.0 (refused_with w 10) (λ two. refl))
link_ran (put_in_place s words cells regs put) = refl
link_ran (by_cattlecleat_replay κ a r e p deep) =
    ap (λ (v : Running). v.world) (replay_run_said κ a r e p)
    ∙ replay_ran (running_from a.0 a.1.0.now a.1.1.0.now) a.1.1.1.0.now
link_ran (by_replay κ a r e p deep) =
    ap (λ (v : Running). v.world) p ∙ replay_ran (running_of a.0 a.1.0.now a.1.1.0.now) a.1.1.1.0.now
link_ran (by_run_record κ a r e p deep) =
    ap (λ (x : ShownRan). x.run.world) p ∙ record_ran_lem (running_of a.0 a.1.0.now a.1.1.0.now) a.1.1.1.0
link_ran (by_run_next κ a r e p deep) =
    ap (λ (t : ShownTurn). t.turned.run.world) p ∙ turn_ran (running_of a.0 a.1.0.now a.1.1.0.now) a.1.1.1.0.now a.1.1.1.1.0
link_ran (came_next t c s told deep) =
    ap (λ (x : ShownFed). x.tape.run.world) (taken_is told) ∙ ap (λ (x : Taping). x.run.world) (answer_leaves t c)
    ∙ ap (λ (v : Running). v.world) (runs_its_bytes t c) ∙ replay_ran t.run (bytes_run t c)
link_ran (no_room_to_feed κ a r e p none) = ap (λ (x : Taping). x.run.world) (unfed κ a r e p none)
link_ran (no_room_to_finish κ a r e p none) = ap (λ (x : Taping). x.run.world) (untold κ a r e p none)
link_ran (by_list_block κ a r e p deep) =
    ap (λ (b : ListedBlock). b.run.world) p
    ∙ block_ran (running_of a.0 a.1.0.now a.1.1.0.now) a.1.1.1.0.now a.1.1.1.1.0.now

-- one event
one_event : (d : ℕ) (w u : World) (e : Event) → d ≤ w.state.count → d ≤ u.state.count → u ≡ ran_through w (e ∷ []) → NeverBelow d w (e ∷ [])
unfolding ran_through
one_event d w u e before after same = (before, subst (λ (x : World). d ≤ x.state.count) same after)

pub link_above : {d : ℕ} {w u : World} {es : List Event} → (link : Link d w es u) → d ≤ w.state.count → d ≤ u.state.count → NeverBelow d w es
unfolding stepped_by
link_above {d} (asked w a t heard) before after = one_event d w _ _ before after (link_ran {d = d} (asked w a t heard))
link_above {d} (by_host_store w at values) before after = one_event d w _ _ before after (link_ran {d = d} (by_host_store w at values))
link_above {d} (by_routine w f t told) before after = (
  before,
  (
    subst (λ (x : World). d ≤ x.state.count) (sym (part_step w f)) before,
    subst (λ (x : World). d ≤ x.state.count) (routine_ran told) after,
  ),
)
link_above (none_asked κ a r e p none) before after = before
link_above {d} (put_in_place s words cells regs put) before after = one_event d _ _ _ before after (link_ran {d = d} (put_in_place s words cells regs put))
link_above {d} (by_cattlecleat_replay κ a r e p deep) before after = records_above d _ (entries_in a.1.1.1.0.now) deep
link_above {d} (by_replay κ a r e p deep) before after = records_above d _ (entries_in a.1.1.1.0.now) deep
link_above {d} (by_run_record κ a r e p deep) before after = records_above d _ (a.1.1.1.0 ∷ []) deep
link_above {d} (by_run_next κ a r e p deep) before after = records_above d _ (entries_here a.1.1.1.0.now a.1.1.1.1.0) deep
link_above {d} (came_next t c s told deep) before after = records_above d t.run (entries_coming t c) deep
link_above (no_room_to_feed κ a r e p none) before after = before
link_above (no_room_to_finish κ a r e p none) before after = before
link_above {d} (by_list_block κ a r e p deep) before after =
    records_above d _ (entries_listed a.1.1.1.0.now a.1.1.1.1.0.now) deep

-- ---- histories
pub ran_join : (w : World) (es fs : List Event) → ran_through w (es ++ fs) ≡ ran_through (ran_through w es) fs
unfolding ran_through
ran_join w [] fs = refl
ran_join w (e ∷ es) fs = ran_join (stepped_by w e) es fs

above_join : (d : ℕ) (w : World) (es fs : List Event) → NeverBelow d w es → NeverBelow d (ran_through w es) fs → NeverBelow d w (es ++ fs)
unfolding ran_through
above_join d w [] fs first later = later
above_join d w (e ∷ es) fs first later = (first.0, above_join d (stepped_by w e) es fs first.1 later)

starts_above : {d : ℕ} {w v : World} {es : List Event} → History d w es v → d ≤ w.state.count
starts_above (history_end w deep) = deep
starts_above (link_then w es u fs v deep link rest) = deep

pub history_ran : {d : ℕ} {w v : World} {es : List Event} → History d w es v → v ≡ ran_through w es
unfolding ran_through
history_ran (history_end w deep) = refl
history_ran (link_then w es u fs v deep link rest) = history_ran rest ∙ ap (λ x. ran_through x fs) (link_ran link) ∙ sym (ran_join w es fs)

pub history_above : {d : ℕ} {w v : World} {es : List Event} → History d w es v → NeverBelow d w es
history_above (history_end w deep) = deep
history_above {d} (link_then w es u fs v deep link rest) =
    above_join d w es fs (link_above link deep (starts_above rest)) (subst (λ x. NeverBelow d x fs) (link_ran link) (history_above rest))
