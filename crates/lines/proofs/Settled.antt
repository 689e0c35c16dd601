-- Each public promise allows one outcome: one place, and one list of bytes. Assumes nothing.
--     write_line_settled, write_stopped_settled, write_spent_settled      each promise, in the words of the function's own contract
use mathlib.Core.Path.{◌≡◌, sym, ap, ◌∙◌}
use mathlib.Core.List.{List}
use Prim.Native.Nat.{ℕ}
use Rattle.choice.specs.Once.{OnceSeen, beside}
use Rattle.lines.specs.Text.{ShownText, shown_text}
use Rattle.lines.proofs.write_line.Reads as write-line
use Rattle.lines.proofs.write_stopped.Reads as write-stopped
use Rattle.lines.proofs.write_spent.Reads as write-spent

shown_once : (s : ShownText) (r r' : ℕ) (b b' : List ℕ) → shown_text r b ≡ s → shown_text r' b' ≡ s → beside r b ≡ beside r' b'
shown_once s r r' b b' p q = ap (λ (t : ShownText). beside t.next t.bytes) (p ∙ sym q)

pub write_line_settled : OnceSeen write-line.Post (λ κ r e. beside r e.0.now)
write_line_settled κ a r r' e e' p q = shown_once _ r r' e.0.now e'.0.now p q

pub write_stopped_settled : OnceSeen write-stopped.Post (λ κ r e. beside r e.0.now)
write_stopped_settled κ a r r' e e' p q = shown_once _ r r' e.0.now e'.0.now p q

pub write_spent_settled : OnceSeen write-spent.Post (λ κ r e. beside r e.0.now)
write_spent_settled κ a r r' e e' p q = shown_once _ r r' e.0.now e'.0.now p q
