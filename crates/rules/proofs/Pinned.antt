-- Each record is what is written out, field by field. Assumes nothing.
use Rattle.rules.specs.Pinned.{ResumedPinned, CalledPinned, SoundPinned, TailsPinned, NothingOwedPinned, DebtPinned}

pub resumed_pinned : ResumedPinned
resumed_pinned w A p s es v i t = (
  λ h. (
    h.older_frames,
    h.caller_frame,
    h.same_instance,
    h.answer_zero,
    h.names_ip,
    h.names_start,
    h.owed_instance,
    h.given_instance,
    h.current_instance,
    h.cells_kept,
  ),
  λ h. record {
    older_frames = h.0;
    caller_frame = h.1;
    same_instance = h.2;
    answer_zero = h.3;
    names_ip = h.4;
    names_start = h.5;
    owed_instance = h.6;
    given_instance = h.7;
    current_instance = h.8;
    cells_kept = h.9;
  },
)

pub called_pinned : CalledPinned
called_pinned w A q es r i = (
  λ h. (h.has_caller, h.has_instance, h.call_accepted, h.never_below, h.is_return, h.return_accepted, h.to_caller),
  λ h. record {
    has_caller = h.0;
    has_instance = h.1;
    call_accepted = h.2;
    never_below = h.3;
    is_return = h.4;
    return_accepted = h.5;
    to_caller = h.6;
  },
)

pub sound_pinned : SoundPinned
sound_pinned w = (λ h. (h.state, h.frames), λ h. record { state = h.0; frames = h.1 })

pub tails_pinned : TailsPinned
tails_pinned w qs v = (
  λ h. (h.same_depth, h.same_start, h.older_frames, h.largest_len),
  λ h. record { same_depth = h.0; same_start = h.1; older_frames = h.2; largest_len = h.3 },
)

pub nothing_owed_pinned : NothingOwedPinned
nothing_owed_pinned w A = (λ h. (h.no_debt, h.has_instance), λ h. record { no_debt = h.0; has_instance = h.1 })

pub debt_pinned : DebtPinned
debt_pinned w A qs v = (
  λ h. (h.empty_while, h.owed_since, h.owed_on, h.return_restores),
  λ h. record { empty_while = h.0; owed_since = h.1; owed_on = h.2; return_restores = h.3 },
)
