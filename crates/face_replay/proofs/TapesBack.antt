-- What is handed back of a tape says it, and is number for number what came where nothing changed. Assumes nothing.
--     tape_said, tape_back_lem                what is handed back says the tape; one that has not changed comes back number for number
--     fed_as_it_came, end_as_it_came      so does one that a block, or an end, left as it was
--     feed_tape_said, finish_tape_said    of any result that the promises of `cattlecleat_feed` and `cattlecleat_finish` allow
use mathlib.Core.Path.{◌≡◌, refl, sym, ap, ◌∙◌}
use mathlib.Core.Bool.{Bool, true, false, ◌&&◌}
use Prim.Native.Nat.{ℕ}
use borrow.Author.Tests.{eqb-true, not-false}
use Rattle.choice.specs.Choose.{choose}
use Rattle.regs.specs.Convert.{truth_bit, truth_of}
use Rattle.tape.specs.Tapes.{Taping, taping_of, ShownFed, fed_with, feeding, end_told}
use Rattle.face_replay.specs.declared.tapes.CTape.{CTape}
use Rattle.face_replay.specs.declared.tapes.CFed.{CFed}
use Rattle.face_replay.specs.Tapes.{flag_back, TapeTold, tape_told, FedTold, tape_of, taping_from}
use Rattle.face_replay.specs.Tapes.{taping_back, feeding_back, TapeSaid, TapeBack, FedAsItCame, EndAsItCame}
use Rattle.face_replay.proofs.Backs.{run_said, run_back_lem}
use Rattle.face_replay.proofs.tapes.cattlecleat_feed.Reads as feeds
use Rattle.face_replay.proofs.tapes.cattlecleat_finish.Reads as finishes

-- ---- a flag by itself

flag_said : (came : ℕ) (said : Bool) → truth_of (flag_back came said) ≡ said
unfolding flag_back choose
flag_said came said = by (truth_of came) said refl
  where
    by : (t s : Bool) → truth_of came ≡ t → truth_of (choose (t && s) came (truth_bit s)) ≡ s
    by true true e = e
    by true false e = refl
    by false true e = refl
    by false false e = refl

flag_back_lem : (came : ℕ) → flag_back came (truth_of came) ≡ came
unfolding flag_back choose
flag_back_lem came = by (truth_of came) refl
  where
    by : (t : Bool) → truth_of came ≡ t → choose (t && t) came (truth_bit t) ≡ came
    by true e = refl
    by false e = sym (eqb-true came 0 (not-false _ e))

-- ---- a tape

pub tape_said : TapeSaid
tape_said c t = λ i. record {
  run = run_said c.run t.run i;
  kept = t.kept;
  held = t.held;
  ended = flag_said c.endflag t.ended i;
}

pub tape_back_lem : TapeBack
tape_back_lem c = λ i. record {
  run = run_back_lem c.run i;
  kept = c.kept;
  held = c.held;
  endflag = flag_back_lem c.endflag i;
}

pub fed_as_it_came : FedAsItCame
fed_as_it_came c words cells block number e = ap (feeding_back c) e ∙ ap (λ t. record { number = number; told = tape_told t words cells }) (tape_back_lem c)

pub end_as_it_came : EndAsItCame
end_as_it_came c words cells e = ap (taping_back c) e ∙ ap (λ t. tape_told t words cells) (tape_back_lem c)

-- ---- of any result that the promises allow

abbrev taping_said : TapeTold → Taping
taping_said t = taping_from t.tape t.words t.cells

taping_said_lem : (c : CTape) (t : Taping) → taping_said (taping_back c t) ≡ t
taping_said_lem c t = ap (λ x. taping_of x t.run.world.words t.run.world.cells) (tape_said c (tape_of t))

abbrev fed_said : FedTold → ShownFed
fed_said f = fed_with (taping_said f.told) f.number

-- the numbers handed back say the tape after the block, with what was answered
pub feed_tape_said : (κ : _) (a : _) (r : CFed) (e : _) → feeds.Post κ a r e
    → fed_with (taping_from r.tape e.1.0.now e.1.1.0.now) r.number
    ≡ feeding (taping_from a.0 a.1.0.now a.1.1.0.now) a.1.1.1.0.now
feed_tape_said κ a r e p =
    let after = feeding (taping_from a.0 a.1.0.now a.1.1.0.now) a.1.1.1.0.now in
    ap fed_said p ∙ ap (λ t. fed_with t after.number) (taping_said_lem a.0 after.tape)

pub finish_tape_said : (κ : _) (a : _) (r : CTape) (e : _) → finishes.Post κ a r e
    → taping_from r e.1.0.now e.1.1.0.now ≡ end_told (taping_from a.0 a.1.0.now a.1.1.0.now)
finish_tape_said κ a r e p = ap taping_said p ∙ taping_said_lem a.0 (end_told (taping_from a.0 a.1.0.now a.1.1.0.now))
