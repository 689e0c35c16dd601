-- Each record is what is written out, field by field. Assumes nothing.
use Rattle.replay.specs.Pinned.{TracePinned, StoppedPinned}

pub trace_pinned : TracePinned
trace_pinned v A q ds r i = (
  λ h. (
    h.has_caller,
    h.has_instance,
    h.call_accepted,
    h.depth_kept,
    h.is_return,
    h.return_accepted,
    h.to_caller,
    h.not_stopped,
  ),
  λ h. record {
    has_caller = h.0;
    has_instance = h.1;
    call_accepted = h.2;
    depth_kept = h.3;
    is_return = h.4;
    return_accepted = h.5;
    to_caller = h.6;
    not_stopped = h.7;
  },
)

pub stopped_pinned : StoppedPinned
stopped_pinned v ds cost es d fs = (
  λ h. (h.stands_at, h.ran_before, h.its_cost, h.too_dear, h.stopped_there),
  λ h. record { stands_at = h.0; ran_before = h.1; its_cost = h.2; too_dear = h.3; stopped_there = h.4 },
)
