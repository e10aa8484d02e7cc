use Rattle.std.proofs.Common.{◌≡◌, ◌==◌, None, false, option_and_then, slice_index, subst, sym, ◌∙◌}
use Rattle.fast_float.specs.Text.{minus}
use Rattle.serde_json.specs.Find.{as_u64}
use Rattle.serde_json.specs.Read.{number_of}
use Rattle.tokei_json_tree.proofs.NumberCounts.{with_minus, without_minus}
use Rattle.tokei_json_tree.proofs.counts.count.Goals as goal

pub returns-then-has_minus : goal.returns-then-has_minus
returns-then-has_minus c =
    let text = c.as_bytes-bytes.result.now in
    subst (λ s. None ≡ option_and_then as_u64 (number_of s)) c.as_bytes-bytes.ensures.value
    (with_minus text (sym c.has_minus.ensures ∙ c.if-has_minus.true))

pub returns : goal.returns
returns c =
    let text = c.as_bytes-bytes.result.now in
    let other : (slice_index text 0 == minus) ≡ false = sym c.has_minus.ensures ∙ c.if-has_minus.false in
    subst (λ s. c.to_u64.result ≡ option_and_then as_u64 (number_of s)) c.as_bytes-bytes.ensures.value
    (without_minus text c.scan.result c.to_u64.result c.scan.ensures.parts other c.to_u64.ensures)
