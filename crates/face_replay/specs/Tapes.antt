-- A tape in its course as numbers (document 02, T-01).
--     tape_from c                       the tape that the numbers say: an end was told where its flag is not 0
--     tape_back c t                     the numbers of a tape handed back for those that came: what has not changed comes back as it came
--     TapeTold, tape_told               a tape with what both buffers hold, and FedTold, fed_told that with a number: what the functions promise
--     taping_from c ws cs               the tape in its course that the numbers say; taping_back, feeding_back: handed back
-- Statements: TapeSaid, what is handed back says the tape; TapeBack, a tape that has not changed comes back number for number; FedAsItCame and EndAsItCame: so
-- does one that a block, or an end, left as it was, with both buffers.
use Rattle.std.specs.Prelude.{◌≡◌, Bool, ◌&&◌, List, ℕ}
use Rattle.choice.specs.Choose.{choose}
use Rattle.regs.specs.Convert.{truth_bit, truth_of}
use Rattle.replay.specs.Running.{run_of}
use Rattle.tape.specs.declared.tape.Tape.{Tape}
use Rattle.tape.specs.Tapes.{Taping, taping_of, ShownFed, fed_with, feeding, end_told}
use Rattle.face_replay.specs.declared.tapes.CTape.{CTape}
use Rattle.face_replay.specs.declared.tapes.CFed.{CFed}
use Rattle.face_replay.specs.Runs.{run_from, run_back}

abbrev pub tape_from : CTape → Tape
tape_from c = record { run = run_from c.run; kept = c.kept; held = c.held; ended = truth_of c.endflag }

-- as it came where it says it: a flag that says no is 0
unfoldable pub flag_back : (came : ℕ) → Bool → ℕ
flag_back came said = choose (truth_of came && said) came (truth_bit said)

abbrev pub tape_back : CTape → Tape → CTape
tape_back c t = record { run = run_back c.run t.run; kept = t.kept; held = t.held; endflag = flag_back c.endflag t.ended }

pub record TapeTold : Type 0 where
  pub tape : CTape
  pub words : List ℕ
  pub cells : List ℕ

abbrev pub tape_told : CTape → (words cells : List ℕ) → TapeTold
tape_told t words cells = record { tape = t; words = words; cells = cells }

pub record FedTold : Type 0 where
  pub number : ℕ
  pub told : TapeTold

abbrev pub fed_told : CFed → (words cells : List ℕ) → FedTold
fed_told f words cells = record { number = f.number; told = tape_told f.tape words cells }

abbrev pub taping_from : CTape → (words cells : List ℕ) → Taping
taping_from c words cells = taping_of (tape_from c) words cells

-- the tape, without what the buffers hold
abbrev pub tape_of : Taping → Tape
tape_of t = record { run = run_of t.run; kept = t.kept; held = t.held; ended = t.ended }

abbrev pub taping_back : CTape → Taping → TapeTold
taping_back c t = tape_told (tape_back c (tape_of t)) t.run.world.words t.run.world.cells

abbrev pub feeding_back : CTape → ShownFed → FedTold
feeding_back c s = record { number = s.number; told = taping_back c s.tape }

abbrev pub TapeSaid : Type 0
TapeSaid = (c : CTape) (t : Tape) → tape_from (tape_back c t) ≡ t

abbrev pub TapeBack : Type 0
TapeBack = (c : CTape) → tape_back c (tape_from c) ≡ c

abbrev pub FedAsItCame : Type 0
FedAsItCame =
    (c : CTape) (words cells block : List ℕ) (number : ℕ) → feeding (taping_from c words cells) block ≡ fed_with (taping_from c words cells) number
    → feeding_back c (feeding (taping_from c words cells) block) ≡ record { number = number; told = tape_told c words cells }

abbrev pub EndAsItCame : Type 0
EndAsItCame =
    (c : CTape) (words cells : List ℕ) → end_told (taping_from c words cells) ≡ taping_from c words cells
    → taping_back c (end_told (taping_from c words cells)) ≡ tape_told c words cells
