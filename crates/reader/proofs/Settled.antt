-- Each public promise allows one outcome: one result, and one reader where it is lent. Assumes nothing.
use Rattle.std.specs.Prelude.{◌≡◌, List, ◌∷◌, [], get_or, Option, None, Some, Bool, false, true}
use mathlib.Core.Bool.{false≢true}
use Rattle.std.specs.Iterator.{YieldsFirst}
use mathlib.Core.Path.{refl, sym, ap, subst, ◌∙◌}
use Rattle.choice.specs.Once.{Once, OnceSeen, beside}
use Rattle.request.proofs.Settled.{nexts_once}
use Rattle.request.specs.Requests.{Decoded}
use Rattle.reader.specs.declared.Reader.{Reader}
use Rattle.reader.specs.Held.{passed, entries_ahead, ShownTwo}
use Rattle.choice.specs.Promised.{Promised}
use Rattle.reader.specs.contracts.reader_at as reader_at
use Rattle.reader.specs.contracts.hand_out as hand-out
use Rattle.reader.specs.contracts.advance as advance
use Rattle.reader.specs.contracts.take_request as take-request
use Rattle.reader.specs.contracts.ReaderIterator.next as iterator-next
use Rattle.reader.proofs.next_two.Reads as next-two

-- ---- what the functions over a reader promise, read off their contracts

abbrev reader_at_says : Promised reader_at.ended (λ M 𝓤 𝓛. reader_at.clauses 𝓛)
reader_at_says = record { Post = λ κ a r e. _; ensures = λ M 𝓤 𝓛 mem run κ a g r e. refl }

abbrev hand_out_says : Promised hand-out.ended (λ M 𝓤 𝓛. hand-out.clauses 𝓛)
hand_out_says = record { Post = λ κ a r e. _; ensures = λ M 𝓤 𝓛 mem run κ a g r e. refl }

abbrev advance_says : Promised advance.ended (λ M 𝓤 𝓛. advance.clauses 𝓛)
advance_says = record { Post = λ κ a r e. _; ensures = λ M 𝓤 𝓛 mem run κ a g r e. refl }

abbrev take_request_says : Promised take-request.ended (λ M 𝓤 𝓛. take-request.clauses 𝓛)
take_request_says = record { Post = λ κ a r e. _; ensures = λ M 𝓤 𝓛 mem run κ a g r e. refl }

-- ---- the promises

pub reader_at_settled : Once reader_at_says.Post
reader_at_settled κ a r r' e e' p q = p ∙ sym q

pub hand_out_settled : Once hand_out_says.Post
hand_out_settled κ a r r' e e' p q = nexts_once r r' (p ∙ sym q)

pub advance_settled : Once advance_says.Post
advance_settled κ a r r' e e' p q = p ∙ sym q

pub take_request_settled : OnceSeen take_request_says.Post (λ κ r e. beside r e.0.now)
take_request_settled κ a r r' e e' p q = λ i. beside (nexts_once r r' (p.0 ∙ sym q.0) i) ((p.1 ∙ sym q.1) i)

pub next_two_settled : Once next-two.Post
next_two_settled κ a r r' e e' p q =
    let same = p ∙ sym q in
    λ i. record {
      first = nexts_once r.first r'.first (ap (λ (s : ShownTwo). s.first) same) i;
      second = nexts_once r.second r'.second
          (ap (λ (s : ShownTwo). s.second) same) i;
    }

-- ---- as an iterator: what it hands out is the first of what was ahead

abbrev some_ahead : List Decoded → Bool
some_ahead [] = false
some_ahead (d ∷ ds) = true

firsts_once : (r : Reader) (x y : Option Decoded) → YieldsFirst entries_ahead r x (passed r) → YieldsFirst entries_ahead r y (passed r) → x ≡ y
firsts_once r None None p q = refl
firsts_once r (Some d) (Some e) p q = ap (λ (ds : List Decoded). Some (get_or ds 0 d)) (sym p ∙ q)
firsts_once r None (Some e) p q = absurd (false≢true (ap some_ahead (sym p.0 ∙ q)))
firsts_once r (Some d) None p q = absurd (false≢true (ap some_ahead (sym q.0 ∙ p)))

abbrev reader_iterator_next_says : Promised iterator-next.ended (λ M 𝓤 𝓛. iterator-next.clauses 𝓛)
reader_iterator_next_says = record { Post = λ κ a r e. _; ensures = λ M 𝓤 𝓛 mem run κ a g r e. refl }

pub reader_iterator_next_settled : OnceSeen reader_iterator_next_says.Post (λ κ r e. beside r e.0.now)
reader_iterator_next_settled κ a r r' e e' p q =
    let same = firsts_once a.0.now r r' (subst (YieldsFirst entries_ahead a.0.now r) p.2 p.0) (subst (YieldsFirst entries_ahead a.0.now r') q.2 q.0) in
    λ i. beside (same i) ((p.2 ∙ sym q.2) i)
