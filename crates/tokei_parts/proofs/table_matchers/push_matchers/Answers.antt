use Rattle.std.proofs.Common.{◌<◌, ◌∙◌, ap, sym, refl, arith, length, get_or, rc_value}
use Rattle.std.proofs.lemmas.List.{length-map}
use Rattle.std.proofs.lemmas.Result.{IfOk-weaker}
use Rattle.tokei_table.specs.Lookups.{row_at}
use Rattle.tokei_parts.specs.Matchers.{matchers_of}
use Rattle.tokei_parts.specs.TableMatchers.{behind}
use Rattle.tokei_parts.proofs.ListedLanguages.{made_before, one_more}
use Rattle.tokei_parts.proofs.table_matchers.push_matchers.Goals as goal

pub returns-then-are_alike : goal.returns-then-are_alike
returns-then-are_alike c =
    let rows = c.args.table.now in
    let before = behind c.args.all.now.items in
    let other = c.in-Some.other in
    let place = c.index-then-are_alike.result in
    let next = c.args.language in
    let d = matchers_of (row_at rows next) in
    let made : other < length before = omega (arith, c.if-index-len.true, c.index.ensures, c.len.ensures, length-map c.args.all.now.items rc_value) in
    let same =
    ap (λ n. get_or before n d) c.index-then-are_alike.ensures
    ∙ made_before rows before next other d c.requires.next c.requires.known made
    ∙ ap matchers_of (sym c.syntax-syntax.ensures.row)
    ∙ c.are_alike.ensures c.if-are_alike.true
    ∙ ap matchers_of c.syntax.ensures.row in
    IfOk-weaker c.push_again.result _ _
    (λ x known. known d ∙ one_more rows before next next (get_or before place d) c.requires.next (record { place = refl; known = c.requires.known }) same)
    c.push_again.ensures

pub returns : goal.returns
returns c =
    let rows = c.args.table.now in
    let before = behind c.args.all.now.items in
    let next = c.args.language in
    IfOk-weaker c.push_new.result _ _
    (λ x known. known ∙ one_more rows before next next (matchers_of (row_at rows next)) c.requires.next (record { place = refl; known = c.requires.known }) refl)
    c.push_new.ensures
