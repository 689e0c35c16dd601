-- `record::form::decode` meets its contract: each number is read at its place. Assumes nothing.
use mathlib.Core.Path.{ap, ◌∙◌}
use lib.ListN.{get_or}
use Rattle.std.specs.Int.{w16, w64, from_le_bytes}
use Rattle.record.specs.Form.{record_in}
use Rattle.record.proofs.Spelling.{two_spelt, eight_spelt}
use Rattle.record.proofs.form.decode.Goals as goal

pub returns : goal.returns
unfolding record_in
returns c =
    let b = c.args.part.now in
    λ i. record {
      kind = get_or b 0 0;
      flags = get_or b 1 0;
      head = (c.from_le_bytes.ensures ∙ ap (from_le_bytes w16) c.bytes_at.ensures ∙ two_spelt 2 b) i;
      params = (c.from_le_bytes-2.ensures ∙ ap (from_le_bytes w16) c.bytes_at-2.ensures ∙ two_spelt 4 b) i;
      locals = (c.from_le_bytes-3.ensures ∙ ap (from_le_bytes w16) c.bytes_at-3.ensures ∙ two_spelt 6 b) i;
      slots = (c.from_le_bytes-4.ensures ∙ ap (from_le_bytes w16) c.bytes_at-4.ensures ∙ two_spelt 8 b) i;
      results = (c.from_le_bytes-5.ensures ∙ ap (from_le_bytes w16) c.bytes_at-5.ensures ∙ two_spelt 10 b) i;
      word1 = (c.from_le_bytes-6.ensures ∙ ap (from_le_bytes w64) c.bytes_at-6.ensures ∙ eight_spelt 16 b) i;
      word2 = (c.from_le_bytes-7.ensures ∙ ap (from_le_bytes w64) c.bytes_at-7.ensures ∙ eight_spelt 24 b) i;
      word3 = (c.from_le_bytes-8.ensures ∙ ap (from_le_bytes w64) c.bytes_at-8.ensures ∙ eight_spelt 32 b) i;
    }
