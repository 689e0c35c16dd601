-- What the numbers of an answer say, from what the functions below promise. Assumes nothing.
use mathlib.Core.Path.{◌≡◌, refl, sym, ap, ◌∙◌}
use mathlib.Core.List.{List}
use Prim.Native.Nat.{ℕ}
use lib.Dec.{leb}
use borrow.Author.Tests.{le-leb}
use Rattle.std.specs.Prelude.{Result, Ok, Err}
use Rattle.choice.specs.Choose.{choose}
use Rattle.choice.proofs.Choices.{chosen_either}
use Rattle.cells.specs.declared.host.HostFrame.{HostFrame}
use Rattle.record.specs.Reading.{bad_record}
use Rattle.rules.specs.declared.Asked.{Asked}
use Rattle.rules.specs.declared.Asked.TheVariants.{Traced}
use Rattle.rules.specs.declared.State.{State}
use Rattle.rules.specs.declared.Refusal.{Refusal}
use Rattle.rules.specs.declared.Reply.{Reply}
use Rattle.rules.specs.declared.Reply.TheVariants.{Gone, Done}
use Rattle.rules.specs.declared.Outcome.{Outcome}
use Rattle.rules.specs.declared.Request.{Request}
use Rattle.rules.specs.World.{world_of}
use Rattle.rules.specs.Answers.{refusal_number, After, no_host, host_values, shown_answer, shown_outcome}
use Rattle.rules.specs.Open.{Opened, shown_opening}
use Rattle.rules.proofs.Judgements.{refusal_two}
use Rattle.rules.specs.Rules.{answered}
use Rattle.replay.specs.Running.{answer_to}
use Rattle.request.specs.Requests.{Decoded}
use Rattle.face.specs.declared.state.CState.{CState}
use Rattle.face.specs.States.{state_to}
use Rattle.face_ask.specs.declared.answers.CAnswer.{CAnswer}
use Rattle.face_ask.specs.Told.{answer_with, state_after, answer_told, opening_told, told, after_told}

-- an answer by its case; a refusal hands the numbers of the state back as they came
module _ (r : CAnswer) (c : CState) (a : Result Reply Refusal) (s : State) where
  pub refusal_told : (why : Refusal) (h : HostFrame) (n : ℕ) → a ≡ Err why → h ≡ no_host → n ≡ refusal_number why → r ≡ answer_with n (host_values 0 h) c
      → r ≡ answer_told c (shown_answer a) s
  unfolding choose
  refusal_told why h n is none numbers tells = rw (is, le-leb 2 (refusal_number why) (refusal_two why)) (tells ∙ rw (none, numbers) refl)

  pub reply_told_lem : (reply : Reply) (t : CState) → a ≡ Ok reply → t ≡ state_to s
      → r ≡ answer_with (shown_answer (Ok reply)).number (shown_answer (Ok reply)).values t → r ≡ answer_told c (shown_answer a) s
  unfolding choose
  reply_told_lem (Gone host) t is after tells = rw is (tells ∙ ap (answer_with 1 (host_values 0 host)) after)
  reply_told_lem (Done values) t is after tells = rw is (tells ∙ ap (answer_with 0 values) after)

-- an outcome told is document 01's answer told
pub outcome_is_told : (c : CState) (o : Outcome) (r : CAnswer) (ws cs : List ℕ) (a : After) → r ≡ answer_told c (shown_answer o.answer) o.state
    → shown_outcome o ws cs ≡ a → told r ws cs ≡ after_told c a
outcome_is_told c o r ws cs a tells shows = ap (λ x. told x ws cs) tells ∙ ap (after_told c) shows

-- an opening told, with the state that came out for the one that came
pub opening_is_told : (o : Outcome) (r : CAnswer) (c : CState) (p : Opened) → c ≡ state_to o.state → r ≡ answer_told c (shown_answer o.answer) o.state
    → shown_opening o ≡ p → r ≡ opening_told p
opening_is_told o r c p same tells opens =
    tells ∙ ap (answer_with (shown_answer o.answer).number (shown_answer o.answer).values)
    (ap (λ x. state_after x (shown_answer o.answer).number o.state) same
    ∙ chosen_either (leb 2 (shown_answer o.answer).number) (state_to o.state))
    ∙ ap opening_told opens

-- of a state that the numbers say
pub answer_at : (s t : State) → s ≡ t → (ws cs : List ℕ) (a : Asked) → answered (world_of s ws cs) a ≡ answered (world_of t ws cs) a
answer_at s t same ws cs a = ap (λ x. answered (world_of x ws cs) a) same

-- of a request that the numbers say
pub asked_at : (s t : State) → s ≡ t → (ws cs : List ℕ) (q : Request) (d e : Decoded) → d ≡ e → d ≡ Ok q
    → answered (world_of s ws cs) (Traced q) ≡ answer_to (world_of t ws cs) e
asked_at s t same ws cs q d e reads asks = answer_at s t same ws cs (Traced q) ∙ ap (answer_to (world_of t ws cs)) (sym asks ∙ reads)

-- numbers that say no request
pub none_is_told : (r : CAnswer) (h : HostFrame) (c : CState) (t : State) (ws cs : List ℕ) (d e : Decoded)
    → r ≡ answer_with 10 (host_values 0 h) c → h ≡ no_host → d ≡ e
    → d ≡ Err bad_record → told r ws cs ≡ after_told c (answer_to (world_of t ws cs) e)
unfolding choose
none_is_told r h c t ws cs d e tells none reads bad =
    ap (λ x. told x ws cs) (tells ∙ ap (λ x. answer_with 10 (host_values 0 x) c) none) ∙ ap (λ x. after_told c (answer_to (world_of t ws cs) x)) (sym bad ∙ reads)
