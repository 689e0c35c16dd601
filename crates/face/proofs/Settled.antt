-- Each public promise allows one result. Assumes nothing.
use mathlib.Core.Path.{sym, ◌∙◌}
use Rattle.choice.specs.Once.{Once}
use Rattle.face.proofs.state.StateFromCState.from.Reads as state-in
use Rattle.face.proofs.state.CStateFromState.from.Reads as state-out
use Rattle.face.proofs.requests.RequestTryFromCRequest.try_from.Reads as request-in
use Rattle.face.proofs.requests.PushArgsFromCRequest.from.Reads as push-in
use Rattle.face.proofs.requests.ReplaceArgsFromCRequest.from.Reads as replace-in
use Rattle.face.proofs.requests.HostArgsFromCRequest.from.Reads as host-in
use Rattle.face.proofs.requests.ReturnHostArgsFromCRequest.from.Reads as return-host-in
use Rattle.face.proofs.requests.CRequestFromRecord.from.Reads as request-out
use Rattle.face.proofs.parts.part_told.Reads as tells-part

pub state_from_c_state_from_settled : Once state-in.Post
state_from_c_state_from_settled κ a r r' e e' p q = p ∙ sym q

pub c_state_from_state_from_settled : Once state-out.Post
c_state_from_state_from_settled κ a r r' e e' p q = p ∙ sym q

pub request_try_from_c_request_try_from_settled : Once request-in.Post
request_try_from_c_request_try_from_settled κ a r r' e e' p q = p ∙ sym q

pub push_args_from_c_request_from_settled : Once push-in.Post
push_args_from_c_request_from_settled κ a r r' e e' p q = p ∙ sym q

pub replace_args_from_c_request_from_settled : Once replace-in.Post
replace_args_from_c_request_from_settled κ a r r' e e' p q = p ∙ sym q

pub host_args_from_c_request_from_settled : Once host-in.Post
host_args_from_c_request_from_settled κ a r r' e e' p q = p ∙ sym q

pub return_host_args_from_c_request_from_settled : Once return-host-in.Post
return_host_args_from_c_request_from_settled κ a r r' e e' p q = p ∙ sym q

pub c_request_from_record_from_settled : Once request-out.Post
c_request_from_record_from_settled κ a r r' e e' p q = p ∙ sym q

pub part_told_settled : Once tells-part.Post
part_told_settled κ a r r' e e' p q = p ∙ sym q
