use Rattle.std.proofs.Common.{◌≡◌, ◌++◌, string_bytes}
use Rattle.tokei_stats.specs.Reports.{children_of}
use Rattle.tokei_print.specs.ChildRows.{child_rows}
use Rattle.tokei_print.specs.ChildrenFit.{ChildrenFit}
use Rattle.tokei_languages.specs.Names.{name_in}
use Rattle.tokei_print.proofs.inside.child_rows.Given as goal

abbrev pub invariant-loop-language : goal.invariant-loop-language
invariant-loop-language l =
    (string_bytes l.rows ++ child_rows l.layout (name_in l.table) (children_of l.language-iterator)
    ≡ child_rows l.layout (name_in l.table) (children_of l.children.entries))
    × (ChildrenFit (children_of l.children.entries) → ChildrenFit (children_of l.language-iterator))
