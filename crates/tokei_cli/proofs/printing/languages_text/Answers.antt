-- Each listed language is one of the rows, and all lines together are those of the rows.
use Rattle.std.proofs.Common.{◌≡◌, ◌++◌, map, codes, refl, ap, ◌∙◌, arith, rules, take_all}
use Rattle.std.specs.Prelude.{flat_map}
use Rattle.tokei_table.specs.Listed.{listed, languages_from}
use Rattle.tokei_cli.specs.Printing.{list_line}
use Rattle.tokei_cli.proofs.Listing.{listed_line, listed_lines, place_below}
use Rattle.tokei_cli.proofs.printing.languages_text.Goals as goal

pub name-requires : goal.name-requires
name-requires c =
    let all : map listed c.deref-language-items.result.now ≡ languages_from 0 c.args.table.now = search rules in
    let below = place_below c.args.table.now 0 c.deref-language-items.result.now all c.loop-language.language-index c.loop-language-item.result (search rules) in
    search rules

pub returns : goal.returns
returns c =
    let rows = c.args.table.now in
    let items = c.deref-language-items.result.now in
    let heading = list_line (codes "Language") (codes "Extensions") in
    let all : map listed items ≡ languages_from 0 rows = search rules in
    let whole = take_all c.loop-language.language-index items (omega (arith, c.loop-language-test.false)) in
    c.loop-language.invariant ∙ ap (λ ls. heading ++ flat_map (λ p. listed_line rows (listed p)) ls) whole
    ∙ ap (λ r. heading ++ r) (listed_lines rows rows 0 items refl all)
