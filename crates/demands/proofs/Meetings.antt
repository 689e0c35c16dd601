-- Links for whatever is asked, for any events and any trace: a reference with any place and name, and numbers that say the world. Assumes nothing.
use mathlib.Core.Path.{◌≡◌, refl, sym, ap, subst}
use mathlib.Core.List.{List, [], ◌∷◌}
use Prim.Native.Nat.{ℕ}
use denote.Ref.{Bor, MutBor}
use contract.Lifetimes.{Lfts}
use Rattle.regs.specs.declared.registers.Registers.{Registers}
use Rattle.rules.specs.declared.Asked.{Asked}
use Rattle.rules.specs.declared.Asked.TheVariants.{Traced, SyncRegs, HostPart}
use Rattle.rules.specs.World.{World, world_of, with_registers}
use Rattle.rules.specs.Answers.{After}
use Rattle.rules.specs.Rules.{answered}
use Rattle.rules.specs.Events.{Event, asks, host_wrote, registers_put, stepped_by, ran_through}
use Rattle.rules.specs.Returning.{NeverBelow}
use Rattle.rules.proofs.Kept.{register_sync_writes_no_word, register_sync_writes_no_cell}
use Rattle.request.specs.Requests.{record_for}
use Rattle.request.specs.Entries.{entries_in}
use Rattle.replay.specs.Running.{Running, answer_to, replayed}
use Rattle.face.specs.declared.state.CState.{CState}
use Rattle.face.specs.declared.requests.CRequest.{CRequest}
use Rattle.face.specs.States.{state_to}
use Rattle.face.specs.Requests.{request_from, request_to}
use Rattle.face.proofs.Handed.{state_kept, request_kept}
use Rattle.face_ask.specs.Told.{told, ToldAnswer, after_told}
use Rattle.face.specs.Parts.{part_told}
use Rattle.face_replay.specs.Runs.{RunTold, running_back, running_from}
use Rattle.face_replay.proofs.Backs.{running_said_lem}
use Rattle.demands.specs.Heard.{world_said, Heard, by_cattlecleat_ask, by_cattlecleat_sync_registers, by_cattlecleat_host_part}
use Rattle.demands.specs.Links.{events_ran, by_put_registers, Link, asked, by_host_store, put_in_place, by_cattlecleat_replay}
use Rattle.demands.specs.Links.{History, history_end, link_then}
use Rattle.demands.specs.Meetings.{EveryAsked, EveryHistory, EveryTrace}
use Rattle.demands.proofs.Heard.{heard_answered}

abbrev pub lent : {A : Type 0} → A → Bor A
lent value = record { ref_ptr = (0, 0); now = value }

-- the same, lent to be written
abbrev pub lent_mut : {A : Type 0} → A → MutBor A
lent_mut value = record { ref_ptr = (0, 0); ghost_name = 0; now = value }

-- ---- numbers that say the world
module _ (κ : Lfts 2) (s : CState) (words cells : List ℕ) where
  abbrev here_said : World
  here_said = world_said s words cells

  asked_said : (a : Asked) → Heard here_said a (answered here_said a)
  asked_said (Traced q) =
      let n : CRequest = request_to (record_for q) in
      let t : ToldAnswer = after_told s (answer_to here_said (request_from n)) in
      let heard = by_cattlecleat_ask κ (s, (lent_mut words, (lent_mut cells, (n, tt)))) t.answer
      (s, (lent_mut t.words, (lent_mut t.cells, (n, tt)))) refl q (request_kept q) in
      subst (λ (o : After). Heard here_said (Traced q) o) (heard_answered heard) heard
  asked_said (SyncRegs regs) =
      let t : ToldAnswer = after_told s (answered here_said (SyncRegs regs)) in
      let kept : told t.answer words cells ≡ t =
      (λ i. told t.answer (sym (register_sync_writes_no_word here_said regs) i) (sym (register_sync_writes_no_cell here_said regs) i)) in
      let heard = by_cattlecleat_sync_registers κ (s, (lent words, (lent cells, (regs, tt)))) t.answer
      (s, (lent words, (lent cells, (regs, tt)))) kept in
      subst (λ (o : After). Heard here_said (SyncRegs regs) o) (heard_answered heard) heard
  asked_said (HostPart f) =
      let heard = by_cattlecleat_host_part κ (s, (lent words, (lent cells, (f, tt)))) (part_told here_said f)
      (s, (lent words, (lent cells, (f, tt)))) refl in
      subst (λ (o : After). Heard here_said (HostPart f) o) (heard_answered heard) heard

-- ---- any world: the numbers of its state say it
world_said_lem : (w : World) → world_said (state_to w.state) w.words w.cells ≡ w
world_said_lem w = ap (λ s. world_of s w.words w.cells) (state_kept w.state)

pub every_asked : EveryAsked
every_asked κ w a =
    subst (λ (u : World). Heard u a (answered u a)) (world_said_lem w) (asked_said κ (state_to w.state) w.words w.cells a)

module _ (κ : Lfts 2) (ι : Lfts 1) (d : ℕ) where
  put_link : (w : World) (regs : Registers) → Link d w (registers_put regs ∷ []) (with_registers w regs)
  put_link w regs =
      let s : CState = state_to w.state in
      subst (λ (u : World). Link d u (registers_put regs ∷ []) (with_registers u regs)) (world_said_lem w)
      (put_in_place s w.words w.cells regs
      (by_put_registers ι (lent_mut s.regs, (regs.ireg, (regs.freg32, (regs.freg64, tt)))) tt
      (lent_mut regs, (regs.ireg, (regs.freg32, (regs.freg64, tt)))) refl))

  event_link : (w : World) (e : Event) → Link d w (e ∷ []) (stepped_by w e)
  unfolding stepped_by
  event_link w (asks a) = asked w a (answered w a) (every_asked κ w a)
  event_link w (host_wrote at values) = by_host_store w at values
  event_link w (registers_put regs) = put_link w regs

  events_linked : (w : World) (es : List Event) → NeverBelow d w es → History d w es (ran_through w es)
  unfolding ran_through
  events_linked w [] deep = history_end w deep
  events_linked w (e ∷ es) deep =
      link_then w (e ∷ []) (stepped_by w e) es (ran_through (stepped_by w e) es) deep.0 (event_link w e) (events_linked (stepped_by w e) es deep.1)

pub every_history : EveryHistory
every_history = events_linked

pub every_trace : EveryTrace
every_trace κ d run words cells bytes deep =
    let v : Running = running_from run words cells in
    let t : RunTold = running_back run (replayed v bytes) in
    subst (λ (u : World). Link d (world_said run.state words cells) (events_ran v (entries_in bytes)) u)
    (ap (λ (v : Running). v.world) (running_said_lem run (replayed v bytes)))
    (by_cattlecleat_replay κ (run, (lent_mut words, (lent_mut cells, (lent bytes, tt)))) t.run
    (run, (lent_mut t.words, (lent_mut t.cells, (lent bytes, tt)))) refl deep)
