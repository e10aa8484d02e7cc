-- A report that is written in four steps.
use Rattle.std.proofs.Common.{◌≡◌, ℕ, List, [], ◌++◌, Bool, ◌∙◌, ap, is_some}
use Rattle.tokei_languages.specs.Values.{LanguageValue}
use Rattle.tokei_print.proofs.Behind.{four_behind}
use Rattle.tokei_print.specs.Heading.{header}
use Rattle.tokei_print.specs.declared.layout.Layout.{Layout}
use Rattle.tokei_languages.specs.Names.{name_in}
use Rattle.tokei_print.specs.Results.{results_text}
use Rattle.tokei_print.specs.Total.{total_text}
use Rattle.tokei_table.specs.Row.{Row}
use Rattle.tokei_print.specs.PrintedReports.{report_text, warning_of}
use Rattle.tokei_print.specs.declared.style.ReportStyle.{ReportStyle}

-- the note, the header, the results and the total, while the layout stays
pub report_of_steps : (rows : List Row) (style : ReportStyle) (listed languages : List (ℕ × LanguageValue))
    (l0 l1 l2 l3 : Layout) (sorted : Bool) (b0 b1 b2 b3 b4 : List ℕ)
    → b0 ≡ [] → l1 ≡ l0 → l2 ≡ l1 → l3 ≡ l2 → sorted ≡ is_some style.sort
    → b1 ≡ b0 ++ warning_of languages → b2 ≡ b1 ++ header l1.columns
    → b3 ≡ b2 ++ results_text l2 (name_in rows) style.compact sorted listed → b4 ≡ b3 ++ total_text l3 languages
    → b4 ≡ report_text l0 rows style listed languages
report_of_steps rows style listed languages l0 l1 l2 l3 sorted b0 b1 b2 b3 b4 z k1 k2 k3 s e1 e2 e3 e4 =
    four_behind b0 b1 b2 b3 b4 _ _ _ _ e1
    (e2 ∙ ap (λ l. b1 ++ header l.columns) k1)
    (e3 ∙ ap (λ l. b2 ++ results_text l (name_in rows) style.compact sorted listed) (k2 ∙ k1)
    ∙ ap (λ b. b2 ++ results_text l0 (name_in rows) style.compact b listed) s)
    (e4 ∙ ap (λ l. b3 ++ total_text l languages) (k3 ∙ k2 ∙ k1))
    ∙ ap (λ b. b ++ report_text l0 rows style listed languages) z
