-- A record written from numbers reads back as numbers that say the same request; one read, and written again from the numbers, is the same bytes; and 10 is
-- given exactly when document 01 says so. Assumes nothing.
use Rattle.std.proofs.Common.{◌≡◌, ℕ, ◌+◌, ◌<◌, true, false, not, ◌⊎◌, ◌↔◌, List, length, sym, refl, ap, ◌∙◌, subst, lit<, lit≤}
use mathlib.Core.Logic.Iff
use borrow.Author.Tests.{not-true, not-false}
use Rattle.choice.proofs.Verdict.{only_one, cause_or_rest, less_than}
use Rattle.record.specs.Form.{record_size}
use Rattle.record.specs.Kinds.{lawful_record}
use Rattle.record.specs.Reading.{record_at, ShownRead, read_number, read_tests, read_at, ShownWrite, write_number, write_tests, record_written}
use Rattle.record.proofs.Reading.{passes_found, found_passes, write_exactly, written_passes, fails_unwritten}
use Rattle.record.proofs.Trips.{written_reads_back, read_writes_back}
use Rattle.request.specs.Requests.{request_in}
use Rattle.face.specs.declared.requests.CRequest.{CRequest}
use Rattle.face.specs.Requests.{request_from, request_to}
use Rattle.face.proofs.Handed.{request_kept}
use Rattle.face_leaves.specs.Spelt.{record_spelt}
use Rattle.face_leaves.specs.Records.{read_told, written_by, ReadBack, WriteBack}
use Rattle.face_leaves.proofs.Spelt.{spelt_said, spelt_again}
use Rattle.face_leaves.proofs.records.cattlecleat_write_record.Reads as writes

-- what is written keeps the rules of its kind
written_lawful : (bytes : List ℕ) (at : ℕ) (q : CRequest) → (written_by bytes at q).number ≡ 0 → lawful_record (record_spelt q) ≡ true
unfolding write_tests
written_lawful bytes at q done =
    not-false _ (written_passes bytes at (record_spelt q) (written_by bytes at q) refl (subst (λ (n : ℕ). n < 2) (sym done) (lit< tt))).1.0

-- the numbers of the record spelt say what the struct says
spelt_kept : (q : CRequest) → lawful_record (record_spelt q) ≡ true → request_from (request_to (record_spelt q)) ≡ request_from q
spelt_kept q lawful =
    let said = spelt_said q lawful in
    ap (λ r. request_from (request_to r)) (sym said.1) ∙ request_kept (request_in (record_spelt q)) ∙ sym said.0

pub request_back : ReadBack
request_back bytes at q fits done =
    let read = written_reads_back bytes at (record_spelt q) fits done in (
      ap (λ (t : ShownRead). t.number) read,
      ap (λ t. request_from (read_told t).request) read ∙ spelt_kept q (written_lawful bytes at q done),
    )

pub spelt_bytes_back : WriteBack
unfolding read_tests
spelt_bytes_back bytes at y found =
    let r = record_at bytes at in
    let passed = (found_passes bytes at (read_at bytes at).found (λ i. read_number (sym found i) (read_at bytes at).found)).0 in
    let read = passes_found bytes at passed in
    ap (λ t. written_by bytes at (read_told t).request) read
    ∙ ap (record_written bytes at) (spelt_again r (not-false _ passed.1.1.0))
    ∙ read_writes_back bytes at r y read

-- ---- of any answer that the promise allows

pub spelt_exactly_10 : (κ : _) (a : _) (n : ℕ) (e : _) → writes.Post κ a n e
    → n ≡ 10 ↔ ((length a.0.now < a.1.0 + record_size) ⊎ (lawful_record (record_spelt a.1.1.0) ≡ false))
unfolding write_tests
spelt_exactly_10 κ a n e p =
    let bytes = a.0.now in
    let at = a.1.0 in
    let r = record_spelt a.1.1.0 in
    Iff.trans (write_exactly bytes at r (write_number n e.0.now) p 10 (lit≤ tt))
    (cause_or_rest (less_than (length bytes) (at + record_size)) (Iff.trans only_one (not-true (lawful_record r), ap not)))

pub refused_spelt_keeps : (κ : _) (a : _) (n : ℕ) (e : _) → writes.Post κ a n e → n ≡ 10 → e.0.now ≡ a.0.now
refused_spelt_keeps κ a n e p ten =
    let bytes = a.0.now in
    let at = a.1.0 in
    let r = record_spelt a.1.1.0 in
    let first = (write_exactly bytes at r (write_number n e.0.now) p 10 (lit≤ tt)).0 ten in
    ap (λ (s : ShownWrite). s.bytes) (p ∙ fails_unwritten bytes at r first)
