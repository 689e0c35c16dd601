-- Trace records, from the laws of record and request: what was heard is what is answered. Assumes nothing.
use mathlib.Core.Path.{◌≡◌, refl, sym, ap, subst, ◌∙◌}
use mathlib.Core.Bool.{false}
use mathlib.Core.Logic.Iff
use mathlib.Core.Logic.{◌↔◌, ◌⊎◌, inl, inr}
use mathlib.Core.List.{List}
use Prim.Native.Nat.{ℕ, ◌+◌, ◌≤◌, ◌<◌}
use lib.Dec.{lit<}
use lib.ListN.{length}
use borrow.Author.Tests.{ltb-false, not-false}
use Rattle.choice.specs.Choose.{choose}
use Rattle.choice.specs.Tests.{FirstIs, here, there}
use Rattle.choice.proofs.Verdict.{Verdict, passes, fails, verdict}
use Rattle.record.specs.declared.Record.{Record}
use Rattle.record.specs.Form.{record_size, FieldsFit}
use Rattle.record.specs.Kinds.{lawful_record}
use Rattle.record.specs.Reading.{record_at, ShownRead, read_number, read_refused, read_tests, read_at}
use Rattle.record.specs.Reading.{ShownWrite, write_refused, write_done, write_tests, record_written}
use Rattle.record.proofs.Exactly.{read_10, write_10}
use Rattle.record.proofs.Reading.{passes_found, fails_bad, passes_written, fails_unwritten, written_passes}
use Rattle.record.proofs.Trips.{written_reads_back}
use Rattle.rules.specs.declared.Request.{Request}
use Rattle.request.specs.Requests.{record_for}
use Rattle.request.specs.Walk.{ShownNext, next_asks, next_none, next_at, request_written}
use Rattle.request.proofs.Exactly.{decoded_exactly_10, next_10, next_none_lem}
use Rattle.request.proofs.Nexts.{next_end}
use Rattle.request.proofs.Trips.{request_reads_back}
use Rattle.face.specs.Requests.{request_from}
use Rattle.face_leaves.specs.declared.records.CRead.{CRead}
use Rattle.face_leaves.specs.Records.{read_told}
use Rattle.face_leaves.proofs.Spelt.{spelt_again}
use Rattle.face_leaves.proofs.ReadBack.{request_back}
use Rattle.demands.specs.Records.{Unreadable, read_said, ReadHeard, by_read_record, by_cattlecleat_read_record, WriteHeard, by_write_record}
use Rattle.demands.specs.Records.{by_write_request, by_cattlecleat_write_record, NextHeard, by_next_request}
use Rattle.demands.specs.Records.{RecordsRead, RecordsWritten, RequestsDecoded, RequestsWalked, RecordsReadBack, NumbersReadBack}

-- ---- what was heard

-- the numbers of a record that was read spell it
read_said_lem : (bytes : List ℕ) (at : ℕ) → read_said (read_told (read_at bytes at)) ≡ read_at bytes at
unfolding read_tests choose
read_said_lem bytes at = by (verdict (read_tests bytes at))
  where
    said_of : (t : ShownRead) → read_at bytes at ≡ t → read_said (read_told t) ≡ t → read_said (read_told (read_at bytes at)) ≡ read_at bytes at
    said_of t e same = ap (λ t. read_said (read_told t)) e ∙ same ∙ sym e

    by : Verdict (read_tests bytes at) → read_said (read_told (read_at bytes at)) ≡ read_at bytes at
    by (passes p) =
        said_of (read_number 0 (record_at bytes at)) (passes_found bytes at p)
        (ap (read_number 0) (spelt_again (record_at bytes at) (not-false (lawful_record (record_at bytes at)) p.1.1.0)))
    by (fails n p) = said_of (read_refused n) (fails_bad bytes at p) refl

read_heard : {bytes : List ℕ} {at : ℕ} {t : ShownRead} → ReadHeard bytes at t → t ≡ read_at bytes at
read_heard (by_read_record κ a r e p) = p
read_heard (by_cattlecleat_read_record κ a r e p) = ap read_said p ∙ read_said_lem a.0.now a.1.0

write_heard : {bytes : List ℕ} {at : ℕ} {r : Record} {t : ShownWrite} → WriteHeard bytes at r t → t ≡ record_written bytes at r
unfolding request_written
write_heard (by_write_record κ a r e p) = p
write_heard (by_write_request κ a r e p) = p
write_heard (by_cattlecleat_write_record κ a r e p) = p

next_heard : {bytes : List ℕ} {at : ℕ} {t : ShownNext} → NextHeard bytes at t → t ≡ next_at bytes at
next_heard (by_next_request κ a r e p) = p

-- ---- reading
module _ (bytes : List ℕ) (at : ℕ) where
  read_ten : {n : ℕ} → FirstIs (read_tests bytes at) n → n ≡ 10
  unfolding read_tests
  read_ten (here e) = refl
  read_ten (there d (here e)) = refl
  read_ten (there c (there d (here e))) = refl
  read_ten (there c (there d (there _ p))) = elim p [ ]

  read_either : (read_at bytes at ≡ read_refused 10) ⊎ (read_at bytes at ≡ read_number 0 (record_at bytes at))
  read_either = by (verdict (read_tests bytes at))
    where
      by : Verdict (read_tests bytes at) → (read_at bytes at ≡ read_refused 10) ⊎ (read_at bytes at ≡ read_number 0 (record_at bytes at))
      by (passes p) = inr (passes_found bytes at p)
      by (fails n p) = inl (fails_bad bytes at p ∙ ap read_refused (read_ten p))

pub records_read : RecordsRead
records_read bytes at t heard =
    subst
    (λ (u : ShownRead). (u.number ≡ 10 ↔ Unreadable bytes at) × ((u ≡ read_refused 10) ⊎ (u ≡ read_number 0 (record_at bytes at))))
    (sym (read_heard heard))
    (read_10 bytes at, read_either bytes at)

-- ---- writing
module _ (bytes : List ℕ) (at : ℕ) (r : Record) where
  write_ten : {n : ℕ} → FirstIs (write_tests bytes at r) n → n ≡ 10
  unfolding write_tests
  write_ten (here e) = refl
  write_ten (there d (here e)) = refl
  write_ten (there d (there _ p)) = elim p [ ]

  write_either : (record_written bytes at r ≡ write_refused bytes 10) ⊎ (record_written bytes at r ≡ write_done bytes at r)
  write_either = by (verdict (write_tests bytes at r))
    where
      by : Verdict (write_tests bytes at r) → (record_written bytes at r ≡ write_refused bytes 10) ⊎ (record_written bytes at r ≡ write_done bytes at r)
      by (passes p) = inr (passes_written bytes at r p)
      by (fails n p) = inl (fails_unwritten bytes at r p ∙ ap (write_refused bytes) (write_ten p))

pub records_written : RecordsWritten
records_written bytes at r t heard =
    subst
    (λ (u : ShownWrite).
    (u.number ≡ 10 ↔ ((length bytes < at + record_size) ⊎ (lawful_record r ≡ false)))
    × ((u ≡ write_refused bytes 10) ⊎ (u ≡ write_done bytes at r)))
    (sym (write_heard heard))
    (write_10 bytes at r, write_either bytes at r)

-- ---- requests
pub requests_decoded : RequestsDecoded
requests_decoded = decoded_exactly_10

walked_10 : (bytes : List ℕ) (at : ℕ) → (next_at bytes at).number ≡ 10 ↔ ((at < length bytes) × Unreadable bytes at)
walked_10 bytes at = Iff.trans (next_10 bytes at) (λ h. (h.0, (read_10 bytes at).0 h.1), λ h. (h.0, (read_10 bytes at).1 h.1))

walked_end : (bytes : List ℕ) (at : ℕ) → next_at bytes at ≡ next_none ↔ length bytes ≤ at
walked_end bytes at = (λ e. next_none_lem bytes at (sym e), λ h. sym (next_end bytes at h))

pub requests_walked : RequestsWalked
requests_walked bytes at t heard =
    subst (λ (u : ShownNext). (u.number ≡ 10 ↔ ((at < length bytes) × Unreadable bytes at)) × (u ≡ next_none ↔ length bytes ≤ at)) (sym (next_heard heard))
    (walked_10 bytes at, walked_end bytes at)

-- ---- back
module _ (bytes : List ℕ) (at : ℕ) (r : Record) (fits : FieldsFit r) (done : (record_written bytes at r).number ≡ 0) where
  record_back : read_at (record_written bytes at r).bytes at ≡ read_number 0 r
  record_back = written_reads_back bytes at r fits done

  room : at + record_size ≤ length bytes
  unfolding write_tests
  room =
      let passed = written_passes bytes at r (record_written bytes at r) refl (subst (λ (n : ℕ). n < 2) (sym done) (lit< tt)) in
      ltb-false (length bytes) (at + record_size) passed.0

  request_back_as : (q : Request) → r ≡ record_for q → next_at (record_written bytes at r).bytes at ≡ next_asks (at + record_size) q
  unfolding request_written
  request_back_as q e =
      ap (λ x. next_at (record_written bytes at x).bytes at) e ∙ (request_reads_back bytes at q (subst FieldsFit e fits) room).1

pub records_read_back : RecordsReadBack
records_read_back bytes at r t heard fits done =
    let same = write_heard heard in
    let zero = sym (ap (λ (s : ShownWrite). s.number) same) ∙ done in (
      λ read read_back.
          read_heard read_back ∙ ap (λ (s : ShownWrite). read_at s.bytes at) same ∙ record_back bytes at r fits zero,
      λ q e next next_back.
          next_heard next_back ∙ ap (λ (s : ShownWrite). next_at s.bytes at) same ∙ request_back_as bytes at r fits zero q e,
    )

pub numbers_read_back : NumbersReadBack
numbers_read_back κ a n e p fits done κ' b r f q same_bytes same_place =
    let bytes = a.0.now in
    let at = a.1.0 in
    let back = request_back bytes at a.1.1.0 fits (sym (ap (λ (s : ShownWrite). s.number) p) ∙ done) in
    let read = q ∙ (λ i. read_told (read_at (same_bytes i) (same_place i))) ∙ ap (λ (s : ShownWrite). read_told (read_at s.bytes at)) p in
    (ap (λ (t : CRead). t.number) read ∙ back.0, ap (λ (t : CRead). request_from t.request) read ∙ back.1)
