-- The record that the numbers of a request spell.
--     record_spelt q    each number in the field of its name, whatever the kind uses, and the flags by whether each is given
-- Statements: SpeltSaid, where the record spelt keeps the rules of its kind, it is the record of the request that the numbers say; SpeltAgain, the numbers
-- of a record that keeps them spell that record.
use Rattle.std.specs.Prelude.{◌≡◌, ◌+◌, true, Ok}
use Rattle.record.specs.declared.Record.{Record}
use Rattle.record.specs.Form.{record_with}
use Rattle.record.specs.Kinds.{lawful_record}
use Rattle.request.specs.Requests.{flag_bit, record_for, request_in}
use Rattle.face.specs.declared.requests.CRequest.{CRequest}
use Rattle.face.specs.Requests.{caller_from, instance_from, request_from, request_to}

-- 1 where a caller ip is given, 2 where an instance is
abbrev pub record_spelt : CRequest → Record
record_spelt q =
    record_with q.kind (flag_bit (caller_from q) 1 + flag_bit (instance_from q) 2) q.head q.params q.locals q.slots q.results
    q.caller q.callee q.instance

abbrev pub SpeltSaid : Type 0
SpeltSaid =
    (q : CRequest) → lawful_record (record_spelt q) ≡ true
    → (request_from q ≡ Ok (request_in (record_spelt q))) × (record_for (request_in (record_spelt q)) ≡ record_spelt q)

abbrev pub SpeltAgain : Type 0
SpeltAgain = (r : Record) → lawful_record r ≡ true → record_spelt (request_to r) ≡ r
