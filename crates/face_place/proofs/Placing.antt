-- From what a request by value answers to what is left in place: one law for every request. Assumes nothing.
--     refused_stays, done_moves     the words of the state after an answer, by its case
--     is_placed                                 what is told and left of an answer is told and left of document 01's
--     registers_refused, registers_stored_lem       a register sync, by its judgement
use Rattle.std.specs.Prelude.{Result, Ok, Err, is_ok, true, false}
use mathlib.Core.Path.{◌≡◌, refl, ap, ◌∙◌}
use mathlib.Core.Bool.{true≢false, false≢true}
use mathlib.Core.List.{List}
use Prim.Native.Nat.{ℕ}
use borrow.Author.Tests.{le-leb}
use Rattle.choice.specs.Choose.{choose}
use Rattle.regs.specs.Registers.{zero_registers}
use Rattle.rules.specs.declared.State.{State}
use Rattle.rules.specs.declared.Refusal.{Refusal}
use Rattle.rules.specs.declared.Reply.{Reply}
use Rattle.rules.specs.declared.Reply.TheVariants.{Gone, Done}
use Rattle.rules.specs.declared.Room.{Room}
use Rattle.rules.specs.declared.Asked.{Asked}
use Rattle.rules.specs.declared.Asked.TheVariants.{SyncRegs}
use Rattle.rules.specs.World.{world_of}
use Rattle.rules.specs.Answers.{refusal_number, Shown, After, shown_answer, refused_outcome, shown_judgement, judged}
use Rattle.rules.specs.Syncs.{register_tests, register_room, registers_stored}
use Rattle.rules.specs.Rules.{answered}
use Rattle.rules.proofs.Judgements.{refusal_two, refused_answer, accepted_answer}
use Rattle.face_place.specs.Held.{state_held, registers_held, registers_laid, unless_refused}
use Rattle.face_place.specs.Placed.{number_told, answered_in, stored_after, placed, placed_after}

-- a refusal leaves what was held; what is done moves it
pub refused_stays : (a : Result Reply Refusal) (st st' : List ℕ) → is_ok a ≡ false → st ≡ unless_refused (shown_answer a).number st st'
unfolding unless_refused choose
refused_stays (Err why) st st' e = rw (le-leb 2 (refusal_number why) (refusal_two why))
refused_stays (Ok reply) st st' e = absurd (true≢false e)

pub done_moves : (a : Result Reply Refusal) (st st' : List ℕ) → is_ok a ≡ true → (st'' : List ℕ) → st'' ≡ st'
    → st'' ≡ unless_refused (shown_answer a).number st st'
unfolding unless_refused choose
done_moves (Err why) st st' e st'' p = absurd (false≢true e)
done_moves (Ok (Gone host)) st st' e st'' p = p
done_moves (Ok (Done values)) st st' e st'' p = p

module _ {A : Type 0} (tell : Shown → A) (left : List ℕ → After → List ℕ) (st words cells : List ℕ) (s : State) (read : s ≡ state_held st zero_registers) where
  pub is_placed : (a a' : Asked) → a' ≡ a → (t : After) → t ≡ answered (world_of s words cells) a' → (r : A) → r ≡ tell t.shown → (st' : List ℕ)
      → st' ≡ left st t → placed r st' t.world.words t.world.cells ≡ placed_after tell left st (answered_in st words cells a)
  is_placed a a' meant t asked r tells st' leaves =
      (λ i. placed (tells i) (leaves i) t.world.words t.world.cells)
      ∙ ap (placed_after tell left st) (asked ∙ (λ i. answered (world_of (read i) words cells) (meant i)))

-- ---- a register sync, by its judgement
module _ (st words cells ws : List ℕ) (s : State) (read : s ≡ state_held st zero_registers) (j : Result Room Refusal)
    (e : shown_judgement j ≡ judged (register_tests (world_of s words cells)) (register_room (world_of s words cells)))
  where
    abbrev asked : Asked
    asked = SyncRegs (registers_held ws 0)

    pub registers_refused : (why : Refusal) → j ≡ Err why → (n : ℕ) → n ≡ refusal_number why
        → placed n st words cells ≡ placed_after number_told (stored_after ws) st (answered_in st words cells asked)
    registers_refused why is n numbers =
        is_placed number_told (stored_after ws) st words cells s read asked asked refl _
        (refused_answer (world_of s words cells) asked j e why (refused_outcome s why) is refl) n numbers st (refused_stays (Err why) st _ refl)

    pub registers_stored_lem : (room : Room) → j ≡ Ok room → (st' : List ℕ) → st' ≡ registers_laid st ws
        → placed 0 st' words cells ≡ placed_after number_told (stored_after ws) st (answered_in st words cells asked)
    unfolding registers_stored unless_refused choose
    registers_stored_lem room is st' put =
        let t = registers_stored (world_of s words cells) (registers_held ws 0) in
        is_placed number_told (stored_after ws) st words cells s read asked asked refl t
        (accepted_answer (world_of s words cells) asked j e t room is refl) 0 refl st' put
