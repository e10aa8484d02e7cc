use Rattle.std.proofs.Common.{◌≡◌, ◌++◌, [], if◌then◌else◌, IfOk, string_bytes, Bool, sym, ap, ap₂, subst, ◌∙◌}
use Rattle.std.proofs.lemmas.List.{append-nil}
use Rattle.tokei_languages.specs.Seen.{language_of}
use Rattle.tokei_print.specs.ChildrenBlock.{children_block}
use Rattle.tokei_print.specs.LanguageRow.{language_row}
use Rattle.tokei_languages.specs.Names.{name_in}
use Rattle.tokei_languages.proofs.Refusals.{no_refusal}
use Rattle.tokei_print.proofs.results.counts_block.Goals as goal

pub returns-then-shows_children-clause-ok : goal.returns-then-shows_children-clause-ok
returns-then-shows_children-clause-ok c =
    let block = children_block c.args.layout.now (name_in c.args.showing.table.now) (language_of c.args.language.now) in
    subst (λ b. IfOk c.joined.result (λ s. string_bytes s ≡ b))
    (ap₂ (λ x y. x ++ y) c.in_ok-row.ensures.ok (ap (λ (v : Bool). if v then block else []) (sym c.if-shows_children.true ∙ c.shows_children.ensures)))
    (c.joined.ensures.ok block c.children_block.ensures.ok)

pub returns-else-shows_children-clause-ok : goal.returns-else-shows_children-clause-ok
returns-else-shows_children-clause-ok c =
    let row = language_row c.args.layout.now (language_of c.args.language.now) c.args.name.now in
    let block = children_block c.args.layout.now (name_in c.args.showing.table.now) (language_of c.args.language.now) in
    c.in_ok-row.ensures.ok ∙ sym (append-nil row)
    ∙ ap (λ (v : Bool). row ++ (if v then block else [])) (sym c.if-shows_children.false ∙ c.shows_children.ensures)

pub returns-then-shows_children-clause-overflow : goal.returns-then-shows_children-clause-overflow
returns-then-shows_children-clause-overflow c = λ t f.
    c.children_block.ensures.overflow (c.joined.ensures.overflow t) (f.children (sym c.shows_children.ensures ∙ c.if-shows_children.true))

pub returns-else-shows_children-clause-overflow : goal.returns-else-shows_children-clause-overflow
returns-else-shows_children-clause-overflow c = λ t f. no_refusal t
