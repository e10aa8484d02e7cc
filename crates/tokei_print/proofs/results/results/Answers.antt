use Rattle.std.proofs.Common.{◌≡◌, ◌++◌, Bool, true, false, IfOk, length, ap, ap₂, subst, ◌∙◌, rules, string_bytes}
use Rattle.std.specs.Prelude.{◌==◌}
use Rattle.std.specs.String.{string_len}
use Rattle.tokei_print.specs.ListedLanguages.{languages_in}
use Rattle.tokei_languages.specs.Names.{name_in}
use Rattle.tokei_print.specs.Results.{group_of, language_blocks}
use Rattle.tokei_print.proofs.Blocks.{no_blocks}
use Rattle.tokei_print.proofs.results.results.Goals as goal

pub returns-clause-ok : goal.returns-clause-ok
returns-clause-ok c =
    let languages = languages_in c.args.languages.now in
    let names = name_in c.args.showing.table.now in
    let alone = group_of c.args.showing.compact false languages in
    let bytes : string_len c.in_ok-rows.rows ≡ length (string_bytes c.in_ok-rows.rows) = search rules in
    let first : c.is_empty.result ≡ (length alone == 0) =
    c.is_empty.ensures ∙ ap (λ n. n == 0) bytes ∙ ap (λ t. length t == 0) c.in_ok-rows.ensures.ok ∙ no_blocks c.args.layout.now names c.args.showing.compact c.args.showing.sorted alone in
    let blocks = λ (b : Bool). language_blocks c.args.layout.now names c.args.showing.compact c.args.showing.sorted b (group_of c.args.showing.compact true languages) in
    subst (λ b. IfOk c.joined.result (λ s. string_bytes s ≡ b))
    (ap₂ (λ x y. x ++ y) c.in_ok-rows.ensures.ok (ap blocks first))
    (c.joined.ensures.ok _ c.group_rows-2.ensures.ok)

pub returns-clause-overflow : goal.returns-clause-overflow
returns-clause-overflow c = λ t f. c.group_rows-2.ensures.overflow (c.joined.ensures.overflow t) f.others
