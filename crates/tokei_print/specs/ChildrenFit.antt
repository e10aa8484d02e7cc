-- When the sums that the rows of the languages inside another show fit the code's numbers.
use Rattle.std.specs.Prelude.{ℕ, List, [], ◌∷◌, ⊤}
use Rattle.tokei_print.specs.LinesFit.{LinesFit}
use Rattle.tokei_stats.specs.Reports.{ReportValue, reports_summary}

-- the lines of each child's row are at most the greatest `usize`
abbrev pub ChildrenFit : List (ℕ × List ReportValue) → Type 0
ChildrenFit [] = ⊤
ChildrenFit (child ∷ children) = LinesFit (reports_summary child.1) × ChildrenFit children
