-- What a block and the end are answered with their lines, by what the tape is. Assumes nothing.
--     held_long, room_found                                   how much is held, and the room, as the code finds them
--     lines_still, lines_refused_lem, lines_narrow, lines_go, lines_number      a block
--     end_still, end_narrow, end_goes                         the end
use mathlib.Core.Path.{◌≡◌, refl, sym, ap, ◌∙◌}
use mathlib.Core.Bool.{Bool, true, false, ◌||◌, false≢true}
use mathlib.Core.List.{List, [], ◌++◌}
use Prim.Native.Nat.{ℕ, ◌+◌, ◌/◌, min}
use native.Mathlib.Omega.{arith}
use lib.Dec.{ltb}
use lib.ListN.{length}
use lib.Seq.{length-take-le}
use borrow.Author.Tests.{ne_eqb}
use Rattle.std.specs.Prelude.{Result, IsErrAnd, Ok, Err}
use Rattle.choice.specs.Choose.{choose}
use Rattle.record.specs.Form.{record_size}
use Rattle.request.specs.Entries.{record_count}
use Rattle.tape.specs.Tapes.{Taping, most_held, held_in, taping_with, has_stopped, is_empty, fed, end_rests, end_told}
use Rattle.listing.specs.Blocks.{block_room, ListedBlock, block_listed}
use Rattle.listing.specs.declared.taped.LinesError.{LinesError}
use Rattle.listing.specs.declared.taped.LinesError.TheVariants.{AfterEnd}
use Rattle.listing.specs.Taped.{fed_lines_number, fed_lines_used, lines_fed, lines_told, ShownLines, lines_out, cut_listed, block_lines_room, end_lines_room}
use Rattle.listing.specs.Taped.{list_feeding, list_telling}
use Rattle.listing.proofs.Steps.{block_all}

-- ---- a block
module _ (t : Taping) (full : length t.kept ≡ record_size) where
  pub held_long : length (held_in t) ≡ min t.held most_held
  held_long = length-take-le (min t.held most_held) t.kept (omega arith)

module _ (t : Taping) (block out : List ℕ) where
  -- as the code finds the room
  pub room_found : length t.kept ≡ record_size → (w : Bool)
      → w ≡ ltb (length out) (block_room ((min t.held most_held + length block) / record_size)) → w ≡ ltb (length out) (block_lines_room t block)
  room_found full w p = let long = held_long t full in p ∙ ap (ltb (length out)) (omega arith)

  pub lines_still : (has_stopped t.run || is_empty block) ≡ true → lines_out 0 0 t out ≡ list_feeding t block out
  unfolding list_feeding fed lines_fed choose
  lines_still h = by (has_stopped t.run) t.ended (is_empty block) refl refl refl h
    where
      by : (x e m : Bool) → has_stopped t.run ≡ x → t.ended ≡ e → is_empty block ≡ m → (x || m) ≡ true → lines_out 0 0 t out ≡ list_feeding t block out
      by true e m p q r h = rw p
      by false true true p q r h = rw (p, q, r)
      by false false true p q r h = rw (p, q, r)
      by false e false p q r h = absurd (false≢true h)

  module _ (goes : has_stopped t.run ≡ false) (some : length block ≡ 0 → ⊥) where
    pub lines_refused_lem : t.ended ≡ true → lines_out 22 0 t out ≡ list_feeding t block out
    unfolding list_feeding choose
    lines_refused_lem e = rw (goes, e, ne_eqb (length block) 0 some)

    -- more is to come, and records are run where there is room for their lines
    module _ (e : t.ended ≡ false) (w : Bool) (p : w ≡ ltb (length out) (block_lines_room t block)) where
      pub lines_narrow : w ≡ true → lines_out 19 0 t out ≡ list_feeding t block out
      unfolding list_feeding choose
      lines_narrow n = rw (goes, e, ne_eqb (length block) 0 some, sym p ∙ n)

      pub lines_go : w ≡ false → (l : ShownLines) → l ≡ cut_listed t.run (held_in t ++ block) out → l ≡ list_feeding t block out
      unfolding list_feeding fed lines_fed choose
      lines_go n l q = rw (goes, e, ne_eqb (length block) 0 some, sym p ∙ n) q

-- the error that goes up is 22
pub lines_number : (r : Result ℕ LinesError) (t : Taping) (out : List ℕ) → IsErrAnd r (λ e. e ≡ AfterEnd)
    → lines_out (fed_lines_number r) (fed_lines_used r) t out ≡ lines_out 22 0 t out
lines_number (Ok used) t out e = absurd e
lines_number (Err why) t out e = ap (λ w. lines_out (fed_lines_number (Err w)) 0 t out) e

-- ---- the end
module _ (t : Taping) (out : List ℕ) (s : Bool) (told : s ≡ has_stopped t.run) where
  pub end_still : (s || t.ended) ≡ true → lines_out 0 0 t out ≡ list_telling t out
  unfolding list_telling end_told lines_told choose
  end_still h = let rests : end_rests t ≡ true = sym (ap (λ b. b || t.ended) told) ∙ h in rw rests

  module _ (h : (s || t.ended) ≡ false) (full : length t.kept ≡ record_size) (k : ℕ) (c : k ≡ min t.held most_held) (w : Bool)
      (p : w ≡ ltb (length out) (block_room (record_count k)))
    where
      goes_on : end_rests t ≡ false
      goes_on = sym (ap (λ b. b || t.ended) told) ∙ h

      end_found : w ≡ ltb (length out) (end_lines_room t)
      end_found = let long = held_long t full in p ∙ ap (ltb (length out)) (omega arith)

      pub end_narrow : w ≡ true → lines_out 19 0 t out ≡ list_telling t out
      unfolding list_telling choose
      end_narrow n = rw (goes_on, sym end_found ∙ n)

      -- what is held is listed, and nothing is held after it
      pub end_goes : w ≡ false → (l : ListedBlock) → l ≡ block_listed t.run (held_in t) out
          → lines_out 0 l.used (taping_with l.run [] true) l.out ≡ list_telling t out
      unfolding list_telling end_told lines_told choose
      end_goes n l q =
          rw (goes_on, sym end_found ∙ n)
          (ap (λ (l : ListedBlock). lines_out 0 l.used (taping_with l.run [] true) l.out)
          (q ∙ sym (block_all t.run (held_in t) out (sym end_found ∙ n))))
