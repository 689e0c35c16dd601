-- The done slot and aligned addresses: what was heard is what is answered, in either case of the slot or of the address. Assumes nothing.
use mathlib.Core.Path.{◌≡◌, refl, sym, ap, subst, ◌∙◌}
use mathlib.Core.Bool.{true, false, true≢false, false≢true}
use mathlib.Core.Logic.{◌↔◌, ◌⊎◌, inl, inr}
use Prim.Native.Nat.{ℕ}
use native.Mathlib.Omega.{arith}
use Rattle.std.specs.Prelude.{Option, Some, None}
use Rattle.choice.specs.Choose.{choose}
use Rattle.choice.specs.Tests.{FirstIs, here, there}
use Rattle.choice.proofs.Verdict.{Verdict, passes, fails, verdict, accepts, refuses}
use Rattle.std.specs.Prelude.{Result, Ok, Err}
use Rattle.regs.specs.declared.align.NoAddress.{NoAddress}
use Rattle.regs.specs.Align.{aligned_address, align_tests, ShownAligned, shown_aligned, align_refused, align_done, aligned, Unalignable}
use Rattle.regs.proofs.Exactly.{exactly_15}
use Rattle.done.specs.declared.DoneReason.{DoneReason}
use Rattle.done.specs.declared.DoneSlot.{DoneSlot}
use Rattle.done.specs.Done.{no_reason, holds_reason, is_filled, ShownFill, fill_tests, fill_refused, fill_done, filled, ShownTake, take_tests, take_refused, take_done, taken}
use Rattle.face_leaves.specs.declared.slot.CReason.{CReason}
use Rattle.face_leaves.specs.Slots.{slot_said, filled_told, taken_told}
use Rattle.face_leaves.proofs.Slotted.{slot_kept}
use Rattle.demands.specs.Leaves.{fill_said, take_said, align_said, FillHeard, by_done_with, by_cattlecleat_done_with, TakeHeard}
use Rattle.demands.specs.Leaves.{by_take_done_reason, by_cattlecleat_take_done_reason, AlignHeard, by_align_relative_to, by_cattlecleat_align}
use Rattle.demands.specs.Leaves.{SlotsFilled, SlotsTaken, AddressesAligned}

-- ---- 12

abbrev FilledEither : DoneSlot → DoneReason → ShownFill → Type 0
FilledEither s reason f = (f.number ≡ 12 ↔ is_filled s ≡ true) × ((f ≡ fill_refused s 12) ⊎ (f ≡ fill_done reason))

filled_either : (s : DoneSlot) (reason : DoneReason) → FilledEither s reason (filled s reason)
unfolding filled fill_tests choose
filled_either s reason = by s.reason
  where
    by : (o : Option DoneReason) → FilledEither (record { reason = o }) reason (filled (record { reason = o }) reason)
    by None = ((λ e. absurd (omega arith), λ e. absurd (false≢true e)), inr refl)
    by (Some held) = ((λ e. refl, λ e. refl), inl refl)

fill_said_lem : (c : CReason) (reason : DoneReason) → fill_said (filled_told c (filled (slot_said c) reason)) ≡ filled (slot_said c) reason
unfolding choose
fill_said_lem c reason = by (filled_either (slot_said c) reason).1
  where
    said_of : (f : ShownFill) → filled (slot_said c) reason ≡ f → fill_said (filled_told c f) ≡ f
        → fill_said (filled_told c (filled (slot_said c) reason)) ≡ filled (slot_said c) reason
    said_of f e same = ap (λ f. fill_said (filled_told c f)) e ∙ same ∙ sym e

    kept : fill_said (filled_told c (fill_refused (slot_said c) 12)) ≡ fill_refused (slot_said c) 12
    kept = refl

    done : fill_said (filled_told c (fill_done reason)) ≡ fill_done reason
    done = λ i. record { number = 0; slot = slot_kept (holds_reason reason) i }

    by : (filled (slot_said c) reason ≡ fill_refused (slot_said c) 12) ⊎ (filled (slot_said c) reason ≡ fill_done reason)
        → fill_said (filled_told c (filled (slot_said c) reason)) ≡ filled (slot_said c) reason
    by (inl e) = said_of (fill_refused (slot_said c) 12) e kept
    by (inr e) = said_of (fill_done reason) e done

fill_heard : {s : DoneSlot} {reason : DoneReason} {f : ShownFill} → FillHeard s reason f → f ≡ filled s reason
fill_heard (by_done_with κ a r e p) = p
fill_heard (by_cattlecleat_done_with κ a r e p) = ap fill_said p ∙ fill_said_lem _ _

pub slots_filled : SlotsFilled
slots_filled s reason f heard = subst (FilledEither s reason) (sym (fill_heard heard)) (filled_either s reason)

-- ---- 13

abbrev TakenEither : DoneSlot → ShownTake → Type 0
TakenEither s t = (t.number ≡ 13 ↔ is_filled s ≡ false) × ((t ≡ take_refused s 13) ⊎ (t ≡ take_done s))

taken_either : (s : DoneSlot) → TakenEither s (taken s)
unfolding taken take_tests choose
taken_either s = by s.reason
  where
    by : (o : Option DoneReason) → TakenEither (record { reason = o }) (taken (record { reason = o }))
    by None = ((λ e. refl, λ e. refl), inl refl)
    by (Some held) = ((λ e. absurd (omega arith), λ e. absurd (true≢false e)), inr refl)

take_said_lem : (c : CReason) → take_said (taken_told c (taken (slot_said c))) ≡ taken (slot_said c)
unfolding choose
take_said_lem c = by (taken_either (slot_said c)).1
  where
    said_of : (t : ShownTake) → taken (slot_said c) ≡ t → take_said (taken_told c t) ≡ t → take_said (taken_told c (taken (slot_said c))) ≡ taken (slot_said c)
    said_of t e same = ap (λ t. take_said (taken_told c t)) e ∙ same ∙ sym e

    kept : take_said (taken_told c (take_refused (slot_said c) 13)) ≡ take_refused (slot_said c) 13
    kept = refl

    done : take_said (taken_told c (take_done (slot_said c))) ≡ take_done (slot_said c)
    done = λ i. record { number = 0; reason = (take_done (slot_said c)).reason; value = (take_done (slot_said c)).value; slot = slot_kept no_reason i }

    by : (taken (slot_said c) ≡ take_refused (slot_said c) 13) ⊎ (taken (slot_said c) ≡ take_done (slot_said c))
        → take_said (taken_told c (taken (slot_said c))) ≡ taken (slot_said c)
    by (inl e) = said_of (take_refused (slot_said c) 13) e kept
    by (inr e) = said_of (take_done (slot_said c)) e done

take_heard : {s : DoneSlot} {t : ShownTake} → TakeHeard s t → t ≡ taken s
take_heard (by_take_done_reason κ a r e p) = p
take_heard (by_cattlecleat_take_done_reason κ a r e p) = ap take_said p ∙ take_said_lem _

pub slots_taken : SlotsTaken
slots_taken s t heard = subst (TakenEither s) (sym (take_heard heard)) (taken_either s)

-- ---- 15
module _ (ip base : ℕ) where
  abbrev AlignedEither : ShownAligned → Type 0
  AlignedEither t = (t.number ≡ 15 ↔ Unalignable ip base) × ((t ≡ align_refused 15) ⊎ (t ≡ align_done ip base))

  -- the one number of the list
  fifteen : {n : ℕ} → FirstIs (align_tests ip base) n → n ≡ 15
  unfolding align_tests
  fifteen (here e) = refl
  fifteen (there d (here e)) = refl
  fifteen (there d (there _ p)) = elim p [ ]

  -- the law of regs speaks of what its function promises, and an answer of either sort is one
  aligned_either : AlignedEither (aligned ip base)
  unfolding aligned align_tests
  aligned_either = by (verdict (align_tests ip base))
    where
      as_answered : (r : Result ℕ NoAddress) → shown_aligned r ≡ aligned ip base → (aligned ip base).number ≡ 15 ↔ Unalignable ip base
      as_answered r p = subst (λ (t : ShownAligned). t.number ≡ 15 ↔ Unalignable ip base) p (exactly_15 ip base r (ip, (base, tt)) p)

      by : Verdict (align_tests ip base) → AlignedEither (aligned ip base)
      by (passes p) =
          let e = accepts align_refused (align_done ip base) (align_tests ip base) p in
          (as_answered (Ok (aligned_address ip base)) (sym e), inr e)
      by (fails n p) =
          let e = refuses align_refused (align_done ip base) p in
          let one = fifteen p in
          (as_answered (Err (record {})) (sym (e ∙ ap align_refused one)), inl (e ∙ ap align_refused one))

align_heard : {ip base : ℕ} {t : ShownAligned} → AlignHeard ip base t → t ≡ aligned ip base
align_heard (by_align_relative_to κ a r e p) = p
align_heard (by_cattlecleat_align κ a r e p) = ap align_said p

pub addresses_aligned : AddressesAligned
addresses_aligned ip base t heard = subst (AlignedEither ip base) (sym (align_heard heard)) (aligned_either ip base)
