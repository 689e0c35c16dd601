-- A request as numbers: document 01's kind, with a flag beside each number that may be missing. What a kind does not use is not looked at.
--     request_from q    the request that the numbers say; none where the kind is none of the nine
--     request_to r      the numbers of a record, each flag by itself
-- One statement, RequestKept: the numbers of a request's record say that request.
use Rattle.std.specs.Prelude.{◌≡◌, ◌/◌, ◌%◌, eqb, Ok, Err, Option, ℕ}
use Rattle.std.specs.Bool.{then_some}
use Rattle.choice.specs.Choose.{choose}
use Rattle.regs.specs.Convert.{truth_of}
use Rattle.record.specs.declared.Record.{Record}
use Rattle.record.specs.Reading.{bad_record}
use Rattle.rules.specs.declared.PushArgs.{PushArgs}
use Rattle.rules.specs.declared.ReplaceArgs.{ReplaceArgs}
use Rattle.rules.specs.declared.HostArgs.{HostArgs}
use Rattle.rules.specs.declared.ReturnHostArgs.{ReturnHostArgs}
use Rattle.rules.specs.declared.Request.{Request}
use Rattle.rules.specs.declared.Request.TheVariants.{Push, Pop, Replace, Host, ReturnHost, Sync, Restore, Reset, Set}
use Rattle.request.specs.Requests.{record_for, Decoded}
use Rattle.face.specs.declared.requests.CRequest.{CRequest}

abbrev pub caller_from : CRequest → Option ℕ
caller_from q = then_some (truth_of q.callerflag) q.caller

abbrev pub instance_from : CRequest → Option ℕ
instance_from q = then_some (truth_of q.instanceflag) q.instance

abbrev pub push_from : CRequest → PushArgs
push_from q = record {
  caller = caller_from q;
  callee = q.callee;
  head = q.head;
  params = q.params;
  locals = q.locals;
  slots = q.slots;
  instance = instance_from q;
}

abbrev pub replace_from : CRequest → ReplaceArgs
replace_from q = record {
  callee = q.callee;
  head = q.head;
  params = q.params;
  locals = q.locals;
  slots = q.slots;
  instance = instance_from q;
}

abbrev pub host_from : CRequest → HostArgs
host_from q = record { caller = caller_from q; head = q.head; params = q.params; results = q.results }

abbrev pub return_host_from : CRequest → ReturnHostArgs
return_host_from q = record { head = q.head; params = q.params; results = q.results; instance = q.instance }

unfoldable pub request_from : CRequest → Decoded
request_from q =
    choose (eqb q.kind 1) (Ok (Push (push_from q)))
    (choose (eqb q.kind 2) (Ok (Pop q.instance))
    (choose (eqb q.kind 3) (Ok (Replace (replace_from q)))
    (choose (eqb q.kind 4) (Ok (Host (host_from q)))
    (choose (eqb q.kind 5) (Ok (ReturnHost (return_host_from q)))
    (choose (eqb q.kind 6) (Ok (Sync q.caller))
    (choose (eqb q.kind 7) (Ok Restore)
    (choose (eqb q.kind 8) (Ok Reset)
    (choose (eqb q.kind 9) (Ok (Set q.head q.callee))
    (Err bad_record)))))))))

abbrev pub request_to : Record → CRequest
request_to r = record {
  kind = r.kind;
  head = r.head;
  params = r.params;
  locals = r.locals;
  slots = r.slots;
  results = r.results;
  callerflag = r.flags % 2;
  caller = r.word1;
  callee = r.word2;
  instanceflag = r.flags / 2 % 2;
  instance = r.word3;
}

abbrev pub RequestKept : Type 0
RequestKept = (q : Request) → request_from (request_to (record_for q)) ≡ Ok q
