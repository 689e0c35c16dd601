-- What is run of a block that was cut, and what is held after it. Assumes nothing.
--     first_run, own_run       the record that the block completes, and its own whole records
--     CutRun, cut_run        they are the whole records of the held bytes and the block, and lie where the cut says
--     first_most, part_ran, holds_after, cut_went      as the code finds them
use Rattle.std.specs.Prelude.{is_some}
use mathlib.Core.Path.{◌≡◌, refl, sym, ap, ◌∙◌}
use mathlib.Core.Bool.{Bool, true, false}
use mathlib.Core.List.{List, [], ◌∷◌, ◌++◌}
use mathlib.Core.Logic.{inl, inr}
use Prim.Native.Nat.{ℕ, ◌+◌, ◌-◌, ◌<◌, ◌≤◌, min}
use native.Mathlib.Omega.{arith}
use native.Mathlib.Decide.{dec_lt}
use lib.Dec.{eqb}
use lib.ListN.{length, take, drop, replicate, length-append, length-take, length-drop}
use lib.Seq.{take_all}
use borrow.Author.Tests.{eqb-true, ne_eqb}
use Rattle.choice.specs.Choose.{choose}
use Rattle.choice.proofs.Choices.{chosen_second, chosen_holds}
use Rattle.runs.proofs.Lists.{sets_whole}
use Rattle.record.specs.Form.{record_size}
use Rattle.request.specs.Entries.{WholeRecords}
use Rattle.request.proofs.Entries.{entries_end}
use Rattle.replay.specs.declared.run.Run.{Run}
use Rattle.replay.specs.Running.{Running, running_of, ran_all, replayed}
use Rattle.replay.proofs.Turns.{replay_joins}
use Rattle.tape.specs.declared.tape.Tape.{Tape}
use Rattle.tape.specs.declared.cut.Cut.{Cut}
use Rattle.tape.specs.Tapes.{most_held, held_bytes, kept_of, taping_of, whole_bytes, whole_in, rest_in, tape_holds, held_after, went_through}
use Rattle.tape.specs.Cuts.{cut_from, first_in, first_count, cut_of}
use Rattle.tape.proofs.Whole.{whole_joins, whole_none}
use Rattle.tape.proofs.Cutting.{from_none, from_missing, missing_bytes, parted, first_length, first_whole, first_full}

-- ---- nothing is replayed by no bytes
pub replay_nothing : (v : Running) → replayed v [] ≡ v
unfolding replayed ran_all
replay_nothing v = ap (ran_all v) (entries_end [] 0 (omega arith))

pub empty_unrun : (v : Running) (bytes : List ℕ) → eqb (length bytes) 0 ≡ true → v ≡ replayed v bytes
empty_unrun v [] e = sym (replay_nothing v)
empty_unrun v (b ∷ bytes) e = let none : length (b ∷ bytes) ≡ 0 = eqb-true (length (b ∷ bytes)) 0 e in absurd (omega arith)

-- ---- what is run of a cut
abbrev pub own_run : Cut → (block : List ℕ) → List ℕ
own_run c block = take (c.to - c.from) (drop c.from block)

abbrev pub first_run : Cut → List ℕ
first_run c = take (first_count c) c.first

pub record CutRun (held block : List ℕ) (c : Cut) : Type 0 where
  pub whole : WholeRecords (first_run c)
  pub all : first_run c ++ own_run c block ≡ whole_in (held ++ block)
  pub ordered : c.from ≤ c.to
  pub within : c.to ≤ length block

module _ (held block : List ℕ) where
  none_run : cut_from (length held) (length block) ≡ 0 → take (whole_bytes (length block)) block ≡ whole_in (held ++ block)
      → CutRun held block (cut_of held block)
  unfolding cut_of choose
  none_run e own = record {
    whole = rw e;
    all = rw e (let to : 0 + whole_bytes (length block - 0) - 0 ≡ whole_bytes (length block) = omega arith in ap (λ k. take k block) to ∙ own);
    ordered = omega arith;
    within = omega arith;
  }

  -- the record is completed
  module _ (some : length held ≡ 0 → ⊥) (most : length held ≤ most_held) (enough : record_size ≤ length held + length block) where
    from_is : cut_from (length held) (length block) ≡ record_size - length held
    from_is = from_missing held block some enough

    from_some : cut_from (length held) (length block) ≡ 0 → ⊥
    from_some z = let none : record_size - length held ≡ 0 = sym from_is ∙ z in absurd (omega arith)

    first_is : first_run (cut_of held block) ≡ held ++ missing_bytes held block
    unfolding cut_of
    first_is =
        let long = first_length held block most enough in
        ap (λ k. take k (kept_of (first_in held block))) (sym (chosen_second _ _ _ _ _ (ne_eqb _ 0 from_some) refl))
        ∙ ap (λ l. take record_size (kept_of l)) (first_full held block from_some ∙ ap (λ k. held ++ take k block) from_is)
        ∙ ap (take record_size) (sets_whole (held ++ missing_bytes held block) (replicate record_size 0) long)
        ∙ take_all record_size (held ++ missing_bytes held block) (omega arith)

    own_is : own_run (cut_of held block) block ≡ whole_in (drop (record_size - length held) block)
    unfolding cut_of whole_in
    own_is =
        let from = cut_from (length held) (length block) in
        let to : from + whole_bytes (length block - from) - from ≡ whole_bytes (length block - from) = omega arith in
        ap (λ k. take k (drop from block)) to
        ∙ ap (λ k. take (whole_bytes (length block - k)) (drop k block)) from_is
        ∙ ap (λ k. take (whole_bytes k) (drop (record_size - length held) block)) (sym (length-drop (record_size - length held) block))

    full_run : CutRun held block (cut_of held block)
    unfolding cut_of
    full_run = record {
      whole = rw first_is (first_whole held block most enough);
      all =
          ap (λ l. l ++ own_run (cut_of held block) block) first_is
          ∙ ap (λ l. (held ++ missing_bytes held block) ++ l) own_is
          ∙ sym (whole_joins (held ++ missing_bytes held block) (drop (record_size - length held) block) (first_whole held block most enough))
          ∙ ap whole_in (sym (parted held block));
      ordered = omega arith;
      within = let from = from_is in omega arith;
    }

pub cut_run : (held block : List ℕ) → length held ≤ most_held → CutRun held block (cut_of held block)
unfolding whole_in
cut_run [] block m = none_run [] block (from_none [] block (inl refl)) refl
cut_run (x ∷ xs) block m = by (dec_lt (length (x ∷ xs) + length block) record_size)
  where
    by : Dec (length (x ∷ xs) + length block < record_size) → CutRun (x ∷ xs) block (cut_of (x ∷ xs) block)
    by (yes p) =
        let none : whole_bytes (length block) ≡ 0 = omega arith in
        none_run (x ∷ xs) block (from_none (x ∷ xs) block (inr p))
        (rw none (sym (whole_none ((x ∷ xs) ++ block) (rw (length-append (x ∷ xs) block) p))))
    by (no p) = full_run (x ∷ xs) block (λ z. absurd (omega arith)) m (omega arith)

-- ---- as the code finds them
pub first_most : (c : Cut) → first_count c ≤ record_size
first_most c = chosen_holds (λ n. n ≤ record_size) (eqb c.from 0) 0 record_size (omega arith) (omega arith)

pub part_ran : (u v : Running) (l : List ℕ) (n m : ℕ) → u ≡ replayed v (take n l) → n ≡ m → u ≡ replayed v (take m l)
part_ran u v l n m p e = p ∙ ap (λ k. replayed v (take k l)) e

pub holds_after : (r : Run) (rest words cells : List ℕ) → taping_of (tape_holds r (kept_of rest) (length rest)) words cells ≡ held_after (running_of r words cells) rest
unfolding tape_holds choose
holds_after r rest words cells = by (is_some r.stop) refl
  where
    by : (s : Bool) → is_some r.stop ≡ s
        → taping_of (tape_holds r (kept_of rest) (length rest)) words cells ≡ held_after (running_of r words cells) rest
    by true e = rw e
    by false e = rw e

-- the tape after a cut block: once its first record and its own are run, what is left over is held
module _ (kept : List ℕ) (held : ℕ) (block : List ℕ) (c : Cut) (e : c ≡ cut_of (held_bytes kept held) block) where
  pub cut_runs : CutRun (held_bytes kept held) block c
  cut_runs = rw e (cut_run (held_bytes kept held) block (let long = length-take (min held most_held) kept in omega arith))

  pub cut_went : (v u : Running) (r : Run) (words cells : List ℕ) (t : Tape) → u ≡ replayed v (first_run c) → running_of r words cells ≡ replayed u (own_run c block)
      → t ≡ tape_holds r c.rest c.left → taping_of t words cells ≡ went_through v (held_bytes kept held ++ block)
  unfolding went_through cut_of
  cut_went v u r words cells t first own h =
      let rest = rest_in (held_bytes kept held ++ block) in
      let ran = own ∙ ap (λ x. replayed x (own_run c block)) first ∙ sym (replay_joins v (first_run c) (own_run c block) cut_runs.whole)
      ∙ ap (replayed v) cut_runs.all in
      ap (λ x. taping_of x words cells) (h ∙ ap (λ x. tape_holds r x.rest x.left) e)
      ∙ holds_after r rest words cells ∙ ap (λ x. held_after x rest) ran
