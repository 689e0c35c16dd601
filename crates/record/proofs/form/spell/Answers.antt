-- `record::form::spell` meets its contract: each number is written behind the one before. Assumes nothing.
use mathlib.Core.Path.{◌≡◌, refl, sym, ap, ◌∙◌}
use mathlib.Core.List.{[], ◌∷◌, ◌++◌}
use Prim.Native.Nat.{◌%◌}
use native.Mathlib.Omega.{arith}
use lib.ListN.{drop}
use lib.Seq.{sets}
use Rattle.runs.proofs.Lists.{sets_whole}
use Rattle.record.specs.Numbers.{number_bytes}
use Rattle.record.specs.Form.{record_bytes}
use Rattle.record.proofs.Spelling.{bytes_low, written_on}
use Rattle.record.proofs.form.spell.Goals as goal

pub returns : goal.returns
returns c =
    let r = c.args.r in
    let l = c.args.part.now in
    let at_kind = r.kind ∷ r.flags ∷ [] in
    let wrote_head = written_on l at_kind (number_bytes 2 r.head) c.put.ensures refl (c.put-2.ensures ∙ ap (sets _ _) (c.to_le_bytes.ensures ∙ bytes_low 2 r.head)) in
    let at_head = at_kind ++ number_bytes 2 r.head in
    let wrote_params = written_on l at_head (number_bytes 2 r.params) wrote_head refl (c.put-3.ensures ∙ ap (sets _ _) (c.to_le_bytes-2.ensures ∙ bytes_low 2 r.params)) in
    let at_params = at_head ++ number_bytes 2 r.params in
    let wrote_locals = written_on l at_params (number_bytes 2 r.locals) wrote_params refl (c.put-4.ensures ∙ ap (sets _ _) (c.to_le_bytes-3.ensures ∙ bytes_low 2 r.locals)) in
    let at_locals = at_params ++ number_bytes 2 r.locals in
    let wrote_slots = written_on l at_locals (number_bytes 2 r.slots) wrote_locals refl (c.put-5.ensures ∙ ap (sets _ _) (c.to_le_bytes-4.ensures ∙ bytes_low 2 r.slots)) in
    let at_slots = at_locals ++ number_bytes 2 r.slots in
    let wrote_results = written_on l at_slots (number_bytes 2 r.results) wrote_slots refl (c.put-6.ensures ∙ ap (sets _ _) (c.to_le_bytes-5.ensures ∙ bytes_low 2 r.results)) in
    let at_results = at_slots ++ number_bytes 2 r.results in
    let wrote_zeros = written_on l at_results (number_bytes 4 0) wrote_results refl c.put-7.ensures in
    let at_zeros = at_results ++ number_bytes 4 0 in
    let wrote_word1 = written_on l at_zeros (number_bytes 8 r.word1) wrote_zeros refl (c.put-8.ensures ∙ ap (sets _ _) (c.to_le_bytes-6.ensures ∙ bytes_low 8 r.word1)) in
    let at_word1 = at_zeros ++ number_bytes 8 r.word1 in
    let wrote_word2 = written_on l at_word1 (number_bytes 8 r.word2) wrote_word1 refl (c.put-9.ensures ∙ ap (sets _ _) (c.to_le_bytes-7.ensures ∙ bytes_low 8 r.word2)) in
    let at_word2 = at_word1 ++ number_bytes 8 r.word2 in
    let wrote_word3 = written_on l at_word2 (number_bytes 8 r.word3) wrote_word2 refl (c.put-10.ensures ∙ ap (sets _ _) (c.to_le_bytes-8.ensures ∙ bytes_low 8 r.word3)) in
    let at_word3 = at_word2 ++ number_bytes 8 r.word3 in
    let kind : r.kind ≡ r.kind % 256 = omega arith in
    let flags : r.flags ≡ r.flags % 256 = omega arith in
    wrote_word3 ∙ sets_whole at_word3 l (sym c.requires) ∙ (λ i. kind i ∷ flags i ∷ drop 2 (record_bytes r))
