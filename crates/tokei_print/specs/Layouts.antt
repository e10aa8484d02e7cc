-- How rows are laid out.
use Rattle.std.specs.Prelude.{List, ℕ}
pub use Rattle.tokei_print.specs.declared.layout.Layout.{Layout}
use Rattle.tokei_options.specs.Grouping.{separator_text}

-- what stands between groups of digits
abbrev pub separator_in : Layout → List ℕ
separator_in layout = separator_text layout.format.separator
