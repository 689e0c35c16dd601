-- What the numbers of a run, and of a tape, say, from what the functions below promise. Assumes nothing.
use mathlib.Core.Path.{◌≡◌, ap, ◌∙◌}
use mathlib.Core.List.{List}
use Prim.Native.Nat.{ℕ}
use Rattle.std.specs.Prelude.{Result, ⊤}
use Rattle.replay.specs.declared.run.Run.{Run}
use Rattle.replay.specs.Running.{Running, running_of, replayed}
use Rattle.tape.specs.declared.tape.Tape.{Tape}
use Rattle.tape.specs.declared.tape.AfterEnd.{AfterEnd}
use Rattle.tape.specs.Tapes.{Taping, taping_of, ShownFed, fed_number, shown_feeding, feeding, end_told}
use Rattle.face_replay.specs.declared.traces.CRun.{CRun}
use Rattle.face_replay.specs.declared.tapes.CTape.{CTape}
use Rattle.face_replay.specs.Runs.{run_back, run_told, running_back}
use Rattle.face_replay.specs.Tapes.{tape_back, tape_told, fed_told, taping_back, feeding_back}

-- a run handed back is a replay in its course handed back
pub run_is_told : (r c : CRun) (run : Run) (ws cs : List ℕ) (v : Running) → r ≡ run_back c run → running_of run ws cs ≡ v → run_told r ws cs ≡ running_back c v
run_is_told r c run ws cs v tells runs = ap (λ x. run_told x ws cs) tells ∙ ap (running_back c) runs

pub replay_at : (run run' : Run) → run ≡ run' → (ws cs bytes : List ℕ) → replayed (running_of run ws cs) bytes ≡ replayed (running_of run' ws cs) bytes
replay_at run run' same ws cs bytes = ap (λ x. replayed (running_of x ws cs) bytes) same

-- ---- a tape

pub tape_is_told : (r c : CTape) (t : Tape) (ws cs : List ℕ) (u : Taping) → r ≡ tape_back c t → taping_of t ws cs ≡ u → tape_told r ws cs ≡ taping_back c u
tape_is_told r c t ws cs u tells is = ap (λ x. tape_told x ws cs) tells ∙ ap (taping_back c) is

pub feeding_is_told : (n : ℕ) (r c : CTape) (f : Result ⊤ AfterEnd) (t : Tape) (ws cs : List ℕ) (s : ShownFed) → n ≡ fed_number f → r ≡ tape_back c t
    → shown_feeding f t ws cs ≡ s → fed_told record { number = n; tape = r } ws cs ≡ feeding_back c s
feeding_is_told n r c f t ws cs s numbers tells is =
    (λ i. record { number = numbers i; told = tape_told (tells i) ws cs }) ∙ ap (feeding_back c) is

pub finish_at : (t t' : Tape) → t ≡ t' → (ws cs : List ℕ) → end_told (taping_of t ws cs) ≡ end_told (taping_of t' ws cs)
finish_at t t' same ws cs = ap (λ x. end_told (taping_of x ws cs)) same

pub feed_at : (t t' : Tape) → t ≡ t' → (ws cs block : List ℕ) → feeding (taping_of t ws cs) block ≡ feeding (taping_of t' ws cs) block
feed_at t t' same ws cs block = ap (λ x. feeding (taping_of x ws cs) block) same
