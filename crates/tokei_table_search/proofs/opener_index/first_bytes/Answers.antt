use Rattle.std.proofs.Common.{◌∙◌, sym, ap, take, get_or, string_bytes, ◌||◌, arith}
use Rattle.std.proofs.lemmas.Grind.{common_steps}
use Rattle.tokei_table_row.specs.FirstOpener.{is_first, is_first_of}
use Rattle.tokei_bytes.specs.OneOf.{is_one_of}
use Rattle.tokei_table_row.specs.RowOf.{tokens_of}
use Rattle.tokei_table_search.proofs.FirstBytes.{is_first-none, is_first-push, tokens_more}
use Rattle.tokei_table_search.proofs.opener_index.first_bytes.Goals as goal

pub loop-opener-init : goal.loop-opener-init
loop-opener-init c = λ x. ap (λ l. is_one_of l x) c.in_ok-firsts.ensures.items ∙ sym (is_first-none x)

pub loop-opener-preserved : goal.loop-opener-preserved
loop-opener-preserved c = λ x.
    let before = tokens_of (take c.loop-opener.opener-index c.args.openers.now) in
    c.in_ok-add_first.ensures x
    ∙ ap (λ h. h || is_first_of x c.as_bytes.result.now) (c.loop-opener.invariant x)
    ∙ ap (λ o. is_first before x || is_first_of x o) (c.as_bytes.ensures.value ∙ ap string_bytes c.opener-item.is)
    ∙ sym (is_first-push before (string_bytes
    (get_or c.args.openers.now c.loop-opener.opener-index c.opener-item.result)) x)
    ∙ ap (λ l. is_first l x)
    (sym (tokens_more c.args.openers.now c.loop-opener.opener-index c.opener-item.result c.loop-opener-test.true))

pub returns : goal.returns
returns c = grind (arith, common_steps)
