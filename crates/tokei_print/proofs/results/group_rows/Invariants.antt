use Rattle.std.proofs.Common.{◌≡◌, ◌++◌, drop, string_bytes}
use Rattle.tokei_print.specs.ListedLanguages.{languages_in}
use Rattle.tokei_languages.specs.Names.{name_in}
use Rattle.tokei_print.specs.Results.{group_of, language_blocks}
use Rattle.tokei_print.specs.ResultsFit.{LanguagesFit}
use Rattle.tokei_print.proofs.results.group_rows.Given as goal

abbrev pub invariant-loop-entry : goal.invariant-loop-entry
invariant-loop-entry l =
    (string_bytes l.rows ++ language_blocks l.layout (name_in l.showing.table.now) l.showing.compact l.showing.sorted l.first
    (group_of l.showing.compact l.group.with_children (languages_in (drop l.entry-index l.languages)))
    ≡ language_blocks l.layout (name_in l.showing.table.now) l.showing.compact l.showing.sorted l.group.first
    (group_of l.showing.compact l.group.with_children (languages_in l.languages)))
    × (LanguagesFit l.layout.list_files l.showing.compact l.showing.sorted (group_of l.showing.compact l.group.with_children (languages_in l.languages))
    → LanguagesFit l.layout.list_files l.showing.compact l.showing.sorted (group_of l.showing.compact l.group.with_children (languages_in (drop l.entry-index l.languages))))
