-- A tape that nothing moved comes back number for number; and any block of any tape can be taken. Assumes nothing.
use Rattle.std.specs.Prelude.{is_some}
use Rattle.std.specs.Bool.{then_some}
use mathlib.Core.Path.{◌≡◌, refl, ap, subst, ◌∙◌}
use mathlib.Core.Bool.{true}
use mathlib.Core.Logic.{◌⊎◌, inl, inr}
use mathlib.Core.List.{List}
use Prim.Native.Nat.{ℕ, ◌≤◌}
use native.Mathlib.Omega.{arith}
use Rattle.regs.specs.Convert.{truth_of}
use Rattle.tape.specs.Tapes.{Taping, has_stopped, fed, ShownFed, fed_with, feeding, end_told}
use Rattle.tape.specs.AnyCuts.{a_block, an_end}
use Rattle.tape.proofs.AnyCuts.{stop_repeats}
use Rattle.tape.proofs.Answered.{only_22}
use Rattle.face_replay.specs.declared.tapes.CTape.{CTape}
use Rattle.face_replay.specs.declared.tapes.CFed.{CFed}
use Rattle.face_replay.specs.Tapes.{TapeTold, FedTold, taping_from, taping_back, feeding_back}
use Rattle.face_replay.proofs.TapesBack.{fed_as_it_came, end_as_it_came}
use Rattle.demands.specs.AsTheyCame.{TapesAsTheyCame}
use Rattle.demands.specs.Meetings.{EveryComing}
use Rattle.demands.specs.Taken.{Taken, by_cattlecleat_feed, by_cattlecleat_finish}
use Rattle.demands.proofs.Taken.{taken_is, told_stays}
use Rattle.demands.proofs.Meetings.{lent, lent_mut}

module _ (c : CTape) (words cells : List ℕ) where
  abbrev t : Taping
  t = taping_from c words cells

  stops : truth_of c.run.stopflag ≡ true → has_stopped t.run ≡ true
  stops e = ap (λ b. is_some (then_some b c.run.cost)) e

  -- refused, or stopped: the tape is as it was
  stays : (block : List ℕ) → (2 ≤ (feeding t block).number) ⊎ (truth_of c.run.stopflag ≡ true) → (n : ℕ) × (feeding t block ≡ fed_with t n)
  stays block (inr e) = (0, stop_repeats t block (stops e))
  stays block (inl two) = by (only_22 t block)
    where
      by : (feeding t block ≡ fed_with (fed t block) 0) ⊎ (feeding t block ≡ fed_with t 22) → (n : ℕ) × (feeding t block ≡ fed_with t n)
      by (inl e) = let none : (feeding t block).number ≡ 0 = ap (λ (x : ShownFed). x.number) e in absurd (omega arith)
      by (inr e) = (22, e)

-- the number that came back is the one answered
as_answered : {r : ℕ} (c : CTape) (words cells block : List ℕ) → r ≡ (feeding (taping_from c words cells) block).number
    → (2 ≤ r) ⊎ (truth_of c.run.stopflag ≡ true)
    → (2 ≤ (feeding (taping_from c words cells) block).number) ⊎ (truth_of c.run.stopflag ≡ true)
as_answered c words cells block e (inl two) = inl (subst (λ n. 2 ≤ n) e two)
as_answered c words cells block e (inr s) = inr s

pub tapes_as_they_came : TapesAsTheyCame
tapes_as_they_came = (
  λ κ a r e p why.
      let words = a.1.0.now in
      let cells = a.1.1.0.now in
      let block = a.1.1.1.0.now in
      let still = stays a.0 words cells block (as_answered a.0 words cells block (ap (λ (f : FedTold). f.number) p) why) in
      let same = p ∙ fed_as_it_came a.0 words cells block still.0 still.1 in
      (ap (λ (f : FedTold). f.told.tape) same, ap (λ (f : FedTold). f.told.words) same, ap (λ (f : FedTold). f.told.cells) same),
  λ κ a r e p stopped.
      let words = a.1.0.now in
      let cells = a.1.1.0.now in
      let same = p ∙ end_as_it_came a.0 words cells (told_stays (taping_from a.0 words cells) (stops a.0 words cells stopped)) in
      (ap (λ (f : TapeTold). f.tape) same, ap (λ (f : TapeTold). f.words) same, ap (λ (f : TapeTold). f.cells) same),
)

-- ---- any block of any tape, and its end, can be taken
pub every_coming : EveryComing
every_coming κ ι tape words cells (a_block block) =
    let u = taping_from tape words cells in
    let f : FedTold = feeding_back tape (feeding u block) in
    let r : CFed = record { number = f.number; tape = f.told.tape } in
    let heard = by_cattlecleat_feed κ (tape, (lent_mut words, (lent_mut cells, (lent block, tt)))) r
    (tape, (lent_mut f.told.words, (lent_mut f.told.cells, (lent block, tt)))) refl in
    subst (λ (s : ShownFed). Taken u (a_block block) s) (taken_is heard) heard
every_coming κ ι tape words cells an_end =
    let u = taping_from tape words cells in
    let f : TapeTold = taping_back tape (end_told u) in
    let heard = by_cattlecleat_finish ι (tape, (lent_mut words, (lent_mut cells, tt))) f.tape (tape, (lent_mut f.words, (lent_mut f.cells, tt))) refl in
    subst (λ (s : ShownFed). Taken u an_end s) (taken_is heard) heard
