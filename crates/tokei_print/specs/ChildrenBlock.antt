-- The rows of the languages inside the files of another, and the subtotal below them.
use Rattle.std.specs.Prelude.{ℕ, List, ◌++◌, codes}
use Rattle.tokei_languages.specs.Summaries.{language_summary}
use Rattle.tokei_languages.specs.Values.{LanguageValue}
use Rattle.tokei_print.specs.declared.layout.Layout.{Layout}
use Rattle.tokei_print.specs.Subtotal.{subtotal}
pub use Rattle.tokei_print.specs.ChildRows.{child_counts, child_row, child_rows}

-- the rows of a language's children, and their subtotal
abbrev pub children_block : Layout → (ℕ → List ℕ) → LanguageValue → List ℕ
children_block layout names language =
    child_rows layout names language.children
    ++ subtotal layout (codes "(Total)") (language_summary language)
