-- The record that a struct spells, beside the request that it says; and that the numbers of a record spell it. Assumes nothing.
use Rattle.std.specs.Prelude.{Ok}
use Rattle.std.proofs.Common.{◌≡◌, ℕ, zero, suc, ◌+◌, ◌/◌, ◌%◌, ◌<◌, ◌≤◌, Bool, true, false, refl, ◌∙◌, arith}
use Rattle.std.specs.Bool.{then_some}
use mathlib.Core.Bool.{false≢true}
use native.Mathlib.Decide.{dec_lt}
use Rattle.choice.specs.Choose.{choose}
use Rattle.regs.specs.Convert.{truth_of}
use Rattle.record.specs.declared.Record.{Record}
use Rattle.record.specs.Kinds.{caller_ip_given, instance_given, lawful_record}
use Rattle.record.proofs.Coding.{kind_zero, kind_beyond, flags_beyond}
use Rattle.rules.specs.declared.Request.TheVariants.{Push, Replace, Host}
use Rattle.request.specs.Requests.{flag_bit, request_in}
use Rattle.request.proofs.Meanings.{lawful_said}
use Rattle.face.specs.declared.requests.CRequest.{CRequest}
use Rattle.face.specs.Requests.{caller_from, instance_from, request_from}
use Rattle.face_leaves.specs.Spelt.{record_spelt, SpeltSaid, SpeltAgain}

-- ---- the two flags of the record spelt say what the struct's do

caller_spelt : (t u : Bool) (m n : ℕ) → then_some t m ≡ then_some (caller_ip_given (flag_bit (then_some t m) 1 + flag_bit (then_some u n) 2)) m
caller_spelt true true m n = refl
caller_spelt true false m n = refl
caller_spelt false true m n = refl
caller_spelt false false m n = refl

instance_spelt : (t u : Bool) (m n : ℕ) → then_some u n ≡ then_some (instance_given (flag_bit (then_some t m) 1 + flag_bit (then_some u n) 2)) n
instance_spelt true true m n = refl
instance_spelt true false m n = refl
instance_spelt false true m n = refl
instance_spelt false false m n = refl

module _ (q : CRequest) where
  caller_same : caller_from q ≡ then_some (caller_ip_given (record_spelt q).flags) q.caller
  caller_same = caller_spelt (truth_of q.callerflag) (truth_of q.instanceflag) q.caller q.instance

  instance_same : instance_from q ≡ then_some (instance_given (record_spelt q).flags) q.instance
  instance_same = instance_spelt (truth_of q.callerflag) (truth_of q.instanceflag) q.caller q.instance

  -- by its kind
  said_at : (kind : ℕ) → q.kind ≡ kind → lawful_record (record_spelt q) ≡ true → request_from q ≡ Ok (request_in (record_spelt q))
  unfolding choose request_from request_in
  said_at zero e l = absurd (false≢true (kind_zero (record_spelt q) e ∙ l))
  said_at (suc zero) e l = rw e (λ i. Ok (Push (record {
    caller = caller_same i;
    callee = q.callee;
    head = q.head;
    params = q.params;
    locals = q.locals;
    slots = q.slots;
    instance = instance_same i;
  })))
  said_at (suc (suc zero)) e l = rw e
  said_at (suc (suc (suc zero))) e l = rw e (λ i. Ok (Replace (record {
    callee = q.callee;
    head = q.head;
    params = q.params;
    locals = q.locals;
    slots = q.slots;
    instance = instance_same i;
  })))
  said_at (suc (suc (suc (suc zero)))) e l = rw e (λ i. Ok (Host (record {
    caller = caller_same i;
    head = q.head;
    params = q.params;
    results = q.results;
  })))
  said_at (suc (suc (suc (suc (suc zero))))) e l = rw e
  said_at (suc (suc (suc (suc (suc (suc zero)))))) e l = rw e
  said_at (suc (suc (suc (suc (suc (suc (suc zero))))))) e l = rw e
  said_at (suc (suc (suc (suc (suc (suc (suc (suc zero)))))))) e l = rw e
  said_at (suc (suc (suc (suc (suc (suc (suc (suc (suc zero))))))))) e l = rw e
  said_at (suc (suc (suc (suc (suc (suc (suc (suc (suc (suc k)))))))))) e l =
      let beyond : 9 < q.kind = omega (arith, e) in
      absurd (false≢true (kind_beyond (record_spelt q) beyond ∙ l))

pub spelt_said : SpeltSaid
spelt_said q lawful = (said_at q q.kind refl lawful, lawful_said (record_spelt q) lawful)

-- ---- the numbers of a record spell it: by its flags, which are at most 3

flags_again : (f m n : ℕ) → f ≤ 3 → flag_bit (then_some (truth_of (f % 2)) m) 1 + flag_bit (then_some (truth_of (f / 2 % 2)) n) 2 ≡ f
flags_again zero m n h = refl
flags_again (suc zero) m n h = refl
flags_again (suc (suc zero)) m n h = refl
flags_again (suc (suc (suc zero))) m n h = refl
flags_again (suc (suc (suc (suc f)))) m n h = absurd (omega arith)

few_flags_lem : (r : Record) → lawful_record r ≡ true → Dec (3 < r.flags) → r.flags ≤ 3
few_flags_lem r lawful (yes h) = absurd (false≢true (flags_beyond r h ∙ lawful))
few_flags_lem r lawful (no h) = omega arith

pub spelt_again : SpeltAgain
spelt_again r lawful = λ i. record {
  kind = r.kind;
  flags = flags_again r.flags r.word1 r.word3 (few_flags_lem r lawful (dec_lt 3 r.flags)) i;
  head = r.head;
  params = r.params;
  locals = r.locals;
  slots = r.slots;
  results = r.results;
  word1 = r.word1;
  word2 = r.word2;
  word3 = r.word3;
}
