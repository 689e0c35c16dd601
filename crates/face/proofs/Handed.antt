-- What is handed out and in again is the same: a state, a request. Assumes nothing.
use mathlib.Core.Path.{◌≡◌, refl, ap, ◌∙◌}
use Prim.Native.Nat.{◌+◌, ◌/◌, ◌%◌}
use Rattle.std.specs.Prelude.{Ok, Option, None, Some, is_some, unwrap_or, ℕ}
use Rattle.std.specs.Bool.{then_some}
use Rattle.regs.specs.Convert.{truth_bit, truth_of}
use Rattle.regs.specs.Widths.{write_read_bool}
use Rattle.choice.specs.Choose.{choose}
use Rattle.choice.proofs.Flags.{given_again}
use Rattle.rules.specs.declared.Request.TheVariants.{Push, Pop, Replace, Host, ReturnHost, Sync, Restore, Reset, Set}
use Rattle.request.specs.Requests.{flag_bit}
use Rattle.face.specs.States.{StateKept}
use Rattle.face.specs.Requests.{request_from, RequestKept}

pub given_kept : (g : Option ℕ) → then_some (truth_of (truth_bit (is_some g))) (unwrap_or g 0) ≡ g
given_kept g = ap (λ b. then_some b (unwrap_or g 0)) (write_read_bool (is_some g)) ∙ given_again g

pub state_kept : StateKept
state_kept s = λ i. record {
  depth = s.depth;
  height = s.height;
  words = s.words;
  cells = s.cells;
  count = s.count;
  len = s.len;
  current = given_kept s.current i;
  regs = s.regs;
}

-- the two flags of a record, each by itself
caller_kept : (c i : Option ℕ) → then_some (truth_of ((flag_bit c 1 + flag_bit i 2) % 2)) (unwrap_or c 0) ≡ c
caller_kept None None = refl
caller_kept None (Some n) = refl
caller_kept (Some m) None = refl
caller_kept (Some m) (Some n) = refl

instance_kept : (c i : Option ℕ) → then_some (truth_of ((flag_bit c 1 + flag_bit i 2) / 2 % 2)) (unwrap_or i 0) ≡ i
instance_kept None None = refl
instance_kept None (Some n) = refl
instance_kept (Some m) None = refl
instance_kept (Some m) (Some n) = refl

-- and one alone
lone_caller : (c : Option ℕ) → then_some (truth_of (flag_bit c 1 % 2)) (unwrap_or c 0) ≡ c
lone_caller None = refl
lone_caller (Some n) = refl

lone_instance : (i : Option ℕ) → then_some (truth_of (flag_bit i 2 / 2 % 2)) (unwrap_or i 0) ≡ i
lone_instance None = refl
lone_instance (Some n) = refl

pub request_kept : RequestKept
unfolding choose request_from
request_kept (Push q) = λ i. Ok (Push (record {
  caller = caller_kept q.caller q.instance i;
  callee = q.callee;
  head = q.head;
  params = q.params;
  locals = q.locals;
  slots = q.slots;
  instance = instance_kept q.caller q.instance i;
}))
request_kept (Pop instance) = refl
request_kept (Replace q) = λ i. Ok (Replace (record {
  callee = q.callee;
  head = q.head;
  params = q.params;
  locals = q.locals;
  slots = q.slots;
  instance = lone_instance q.instance i;
}))
request_kept (Host q) = λ i. Ok (Host (record { caller = lone_caller q.caller i; head = q.head; params = q.params; results = q.results }))
request_kept (ReturnHost q) = refl
request_kept (Sync ip) = refl
request_kept Restore = refl
request_kept Reset = refl
request_kept (Set head cell) = refl
