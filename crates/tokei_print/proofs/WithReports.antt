-- The row of a language inside the files of another, with reports and without any.
use Rattle.std.proofs.Common.{◌≡◌, ℕ, ◌<◌, List, [], ◌∷◌, ◌++◌, false, codes, length, map, sym, ap, arith}
use Rattle.std.proofs.lemmas.List.{append-nil, length-map}
use Rattle.tokei_print.specs.ChildRows.{child_row}
use Rattle.tokei_print.specs.FilesAndCounts.{files_and_counts}
use Rattle.tokei_print.specs.Layouts.{separator_in}
use Rattle.tokei_print.specs.NameSection.{name_section}
use Rattle.tokei_print.specs.declared.layout.Layout.{Layout}
use Rattle.tokei_stats.specs.Reports.{report_of, reports_summary}
use Rattle.tokei_stats.specs.declared.report.Report.{Report}

pub of_none : (layout : Layout) (name : List ℕ) (rs : List Report) → length rs ≡ 0
    → name_section layout.columns false name (codes " |-") ≡ child_row layout name (map report_of rs)
of_none layout name [] e = sym (append-nil (name_section layout.columns false name (codes " |-")))
of_none layout name (r ∷ rs) e = absurd (omega arith)

pub of_some : (layout : Layout) (name : List ℕ) (rs : List Report) → 0 < length rs
    → name_section layout.columns false name (codes " |-")
    ++ files_and_counts (separator_in layout) (length rs) (reports_summary (map report_of rs))
    ≡ child_row layout name (map report_of rs)
of_some layout name [] n = absurd (omega arith)
of_some layout name (r ∷ rs) n =
    ap (λ k. name_section layout.columns false name (codes " |-")
    ++ files_and_counts (separator_in layout) k (reports_summary (map report_of (r ∷ rs)))) (sym (length-map (r ∷ rs) report_of))
