-- What a record says by its numbers: a request, or that it reads badly. Nothing here has to be believed: it is cited by private functions alone.
use Rattle.std.specs.Prelude.{Ok, Err}
use Rattle.choice.specs.Choose.{choose}
use Rattle.record.specs.declared.Record.{Record}
use Rattle.record.specs.Kinds.{lawful_record}
use Rattle.record.specs.Reading.{bad_record}
use Rattle.request.specs.Requests.{request_in, Decoded}

unfoldable pub entry_for : Record → Decoded
entry_for r = choose (lawful_record r) (Ok (request_in r)) (Err bad_record)
