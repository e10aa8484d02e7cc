-- A document holds no number but whole ones of 64 bits.
use Rattle.std.proofs.Common.{◌≡◌, ℕ, List, false, map, codes, refl}
use Rattle.serde_json.specs.Data.{no_members}
use Rattle.serde_json.specs.View.{items_of}
use Rattle.serde_json.specs.Written.{has_float, items_have_float, members_have_float}
use Rattle.tokei_languages.specs.Values.{LanguageValue}
use Rattle.tokei_languages.specs.Summaries.{total_of}
use Rattle.tokei_table.specs.Row.{Row}
use Rattle.tokei_json.specs.Document.{report_data, reports_data, named_data, language_data, document}
use Rattle.tokei_json.proofs.Members.{all_put, all_named}
use Rattle.tokei_json.proofs.NoFloats.{IsWhole, neither, whole_members, whole_reports}

whole_language : (rows : List Row) (l : LanguageValue) → has_float (language_data rows l) ≡ false
whole_language rows l =
    neither (members_have_float (named_data rows (reports_data rows) l.children no_members)) _
    (whole_members _ (all_named IsWhole rows (reports_data rows) l.children no_members (λ k rs. whole_reports rows rs) tt))
    (neither (items_have_float (items_of (map (report_data rows) l.reports))) false (whole_reports rows l.reports) refl)

pub whole_document : (rows : List Row) (es : List (ℕ × LanguageValue)) → has_float (document rows es) ≡ false
unfolding document
whole_document rows es =
    whole_members _ (all_put IsWhole (codes "Total") (language_data rows (total_of es)) _ (whole_language rows (total_of es))
    (all_named IsWhole rows (language_data rows) es no_members (λ k l. whole_language rows l) tt))
