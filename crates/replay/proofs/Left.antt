-- What is left to run of a trace from a place on, as a loop by places has it: each law with what it comes to on the right. Assumes nothing.
--     left_goes, left_stopped, left_short      by a record that was run, one that the run stopped before, and a short one
use Rattle.std.specs.Prelude.{is_some, Err}
use Rattle.std.proofs.Common.{◌≡◌, ℕ, ◌+◌, ◌<◌, true, List, length, sym, refl, ap, ◌∙◌, arith, lt-ltb}
use Rattle.choice.specs.Tests.{here}
use Rattle.record.specs.Form.{record_size}
use Rattle.record.specs.Reading.{read_tests, bad_record}
use Rattle.request.specs.Requests.{Decoded}
use Rattle.request.specs.Walk.{next_place}
use Rattle.request.specs.Entries.{entry_at, entries_left}
use Rattle.request.proofs.Nexts.{next_fails}
use Rattle.request.proofs.Entries.{entries_go, entries_end, entry_bad}
use Rattle.replay.specs.Running.{Running, ran, ran_all}
use Rattle.replay.proofs.Spent.{stop_stays}

module _ (v : Running) (bytes : List ℕ) (at : ℕ) (inside : at < length bytes) where
  pub left_goes : (g : Running) → ran_all v (entries_left bytes at) ≡ g → (u : Running) → u ≡ (ran v (entry_at bytes at)).run
      → (next : ℕ) → next ≡ next_place (length bytes) at → ran_all u (entries_left bytes next) ≡ g
  unfolding ran_all
  left_goes g left u p next n = (λ i. ran_all (p i) (entries_left bytes (n i))) ∙ sym (ap (ran_all v) (entries_go bytes at inside)) ∙ left

  pub left_stopped : (g : Running) → ran_all v (entries_left bytes at) ≡ g → (u : Running) → u ≡ (ran v (entry_at bytes at)).run → is_some u.stop ≡ true → u ≡ g
  left_stopped g left u p s = sym (stop_stays u (entries_left bytes (next_place (length bytes) at)) s) ∙ left_goes g left u p _ refl

  -- a short record reads badly, and is the last
  short_entry : length bytes < at + record_size → entry_at bytes at ≡ Err bad_record
  unfolding read_tests
  short_entry h = (entry_bad bytes at _ inside (next_fails bytes at inside (here (lt-ltb (length bytes) (at + record_size) h)))).0

  none_left : (u : Running) → ran_all u (entries_left bytes (length bytes)) ≡ u
  unfolding ran_all
  none_left u = ap (ran_all u) (entries_end bytes (length bytes) (omega arith))

  pub left_short : length bytes < at + record_size → (ran v (Err bad_record)).run ≡ ran_all v (entries_left bytes at)
  left_short h =
      let last : length bytes ≡ next_place (length bytes) at = omega arith in
      sym (none_left (ran v (Err bad_record)).run) ∙ left_goes _ refl _ (ap (λ (d : Decoded). (ran v d).run) (sym (short_entry h))) _ last
