-- A reader walks as the cursor does: it keeps its bytes, stands where the cursor stands, and hands out what the trace says. Its walk ends. Assumes
-- nothing.
use mathlib.Core.Path.{◌≡◌, refl, sym, ap, ◌∙◌}
use mathlib.Core.List.{List, [], ◌∷◌}
use Prim.Native.Nat.{ℕ, zero, suc, ◌+◌, ◌-◌, ◌*◌, ◌≤◌, ◌<◌}
use native.Mathlib.Omega.{arith}
use native.Mathlib.Decide.{dec_lt}
use lib.ListN.{length}
use Rattle.std.specs.Prelude.{Some, Ok, Err}
use Rattle.record.specs.Form.{record_size}
use Rattle.request.specs.Requests.{Decoded}
use Rattle.request.specs.Walk.{next_place, ShownNext, next_none, shown_next, next_at}
use Rattle.request.specs.Entries.{entry_at, record_count, entries_from, entries_left}
use Rattle.request.proofs.Nexts.{next_end, place_moves}
use Rattle.request.proofs.Entries.{entries_go, entries_end, entry_asks, entry_bad}
use Rattle.request.proofs.Exactly.{next_none_lem}
use Rattle.reader.specs.declared.Reader.{Reader}
use Rattle.reader.specs.Held.{reader_on, passed, entries_ahead, passed_by, place_by, handed_out}

pub walks_as_cursor : (k : ℕ) (r : Reader) → passed_by k r ≡ reader_on r.bytes (place_by k (length r.bytes.now) r.at)
walks_as_cursor zero r = refl
walks_as_cursor (suc k) r = walks_as_cursor k (passed r)

-- what it hands out is what the trace says, record by record
pub hands_out_entries : (k : ℕ) (r : Reader) → handed_out k r ≡ entries_from r.bytes.now k r.at
unfolding entries_from
hands_out_entries zero r = refl
hands_out_entries (suc k) r = ap (λ (ds : List Decoded). entry_at r.bytes.now r.at ∷ ds) (hands_out_entries k (passed r))

-- all that are left, from any place: from 0 on, the whole trace
pub hands_out_rest : (r : Reader) → handed_out (record_count (length r.bytes.now - r.at)) r ≡ entries_left r.bytes.now r.at
unfolding entries_left
hands_out_rest r = hands_out_entries (record_count (length r.bytes.now - r.at)) r

-- ---- a walk ends

pub reader_moves : (r : Reader) → r.at < length r.bytes.now → (r.at < (passed r).at) × ((passed r).at ≤ length r.bytes.now)
reader_moves r = place_moves (length r.bytes.now) r.at

place_reaches : (k len at : ℕ) → len ≤ at + k * record_size → len ≤ place_by k len at
place_reaches zero len at h = omega arith
place_reaches (suc k) len at h = place_reaches k len (next_place len at) (omega arith)

-- past as many records as its bytes are, it hands out the end
pub walk_ends : (k : ℕ) (r : Reader) → length r.bytes.now ≤ r.at + k * record_size
    → next_at r.bytes.now (place_by k (length r.bytes.now) r.at) ≡ next_none
walk_ends k r h = sym (next_end _ _ (place_reaches k (length r.bytes.now) r.at h))

-- ---- as an iterator: what it hands out is the first of what is ahead, and at the end nothing is

module _ (r : Reader) where
  pub nothing_ahead : next_none ≡ next_at r.bytes.now r.at → (entries_ahead r ≡ []) × (entries_ahead (passed r) ≡ [])
  nothing_ahead e =
      let end = next_none_lem r.bytes.now r.at e in
      (entries_end r.bytes.now r.at end, entries_end r.bytes.now (next_place (length r.bytes.now) r.at) (omega arith))

  handed_inside : (d : Decoded) (next : ℕ) → shown_next (Some (d, next)) ≡ next_at r.bytes.now r.at → r.at < length r.bytes.now
  handed_inside d next = by (dec_lt r.at (length r.bytes.now)) d
    where
      by : Dec (r.at < length r.bytes.now) → (d : Decoded) → shown_next (Some (d, next)) ≡ next_at r.bytes.now r.at → r.at < length r.bytes.now
      by (yes h) d e = h
      by (no h) (Ok q) e =
          let none : ◌≡◌ {A = ℕ} 1 0 = ap (λ (s : ShownNext). length s.asks) (e ∙ sym (next_end r.bytes.now r.at (omega arith))) in
          absurd (omega arith)
      by (no h) (Err b) e =
          let none : ◌≡◌ {A = ℕ} 10 0 = ap (λ (s : ShownNext). s.number) (e ∙ sym (next_end r.bytes.now r.at (omega arith))) in
          absurd (omega arith)

  pub first_ahead : (d : Decoded) (next : ℕ) → shown_next (Some (d, next)) ≡ next_at r.bytes.now r.at → entries_ahead r ≡ d ∷ entries_ahead (passed r)
  first_ahead d next e =
      let inside = handed_inside d next e in
      entries_go r.bytes.now r.at inside ∙ ap (λ (x : Decoded). x ∷ entries_ahead (passed r)) (said d e)
    where
      said : (d : Decoded) → shown_next (Some (d, next)) ≡ next_at r.bytes.now r.at → entry_at r.bytes.now r.at ≡ d
      said (Ok q) e = (entry_asks r.bytes.now r.at q next (handed_inside (Ok q) next e) e).0
      said (Err b) e = (entry_bad r.bytes.now r.at next (handed_inside (Err b) next e) e).0
