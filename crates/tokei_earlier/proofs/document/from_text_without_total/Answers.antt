use Rattle.std.proofs.Common.{◌≡◌, ◌≢◌, Ok, Err, IfErr, IfOk, sym, subst}
use Rattle.json.specs.Value.{value_view}
use Rattle.tokei_languages.specs.Seen.{languages_of}
use Rattle.tokei_earlier.specs.declared.error.InputError.TheVariants.{Memory}
use Rattle.tokei_earlier.proofs.WithoutTotal.{text_without_total}
use Rattle.tokei_earlier.proofs.document.from_text_without_total.Goals as goal

pub returns-in-Ok-clause-languages : goal.returns-in-Ok-clause-languages
returns-in-Ok-clause-languages c =
    let told = sym (text_without_total c.args.table.now c.args.text.now (value_view c.in-Ok.tree) c.tables_are_well_formed.ensures.no_total c.requires c.in-Ok.ensures) in
    subst (λ o. IfOk c.from_tree.result (λ ls. o ≡ Ok (languages_of ls))) told c.from_tree.ensures.languages

pub returns-in-Ok-clause-refused : goal.returns-in-Ok-clause-refused
returns-in-Ok-clause-refused c =
    let told = sym (text_without_total c.args.table.now c.args.text.now (value_view c.in-Ok.tree) c.tables_are_well_formed.ensures.no_total c.requires c.in-Ok.ensures) in
    subst (λ o. IfErr c.from_tree.result (λ e. (e ≢ Memory) → o ≡ Err e)) told c.from_tree.ensures.refused
