-- A document has its layout.
use Rattle.std.proofs.Common.{◌≡◌, ℕ, List, [], ◌∷◌, map, Bool, true, false, ◌&&◌, ◌||◌, not, is_some, codes, bytes_eq, refl, ap}
use Rattle.serde_json.specs.Data.{Data, Members, no_members, member, put}
use Rattle.serde_json.specs.Find.{get_member}
use Rattle.serde_json.specs.View.{items_of}
use Rattle.serde_json.specs.Written.{has_float}
use Rattle.serde_json.proofs.Views.{get_member-put}
use Rattle.tokei_languages.specs.Values.{ReportValue, LanguageValue}
use Rattle.tokei_languages.specs.Summaries.{total_of}
use Rattle.tokei_stats.specs.Statistics.{Statistics, Blobs}
use Rattle.tokei_stats.specs.Statistics.Statistics.{node}
use Rattle.tokei_stats.specs.Statistics.Blobs.{none, blob}
use Rattle.tokei_json_tree.specs.Shapes.{all_items}
use Rattle.tokei_table.specs.Row.{Row}
use Rattle.tokei_languages.specs.Names.{name_in}
use Rattle.tokei_json.specs.Document.{statistics_data, blobs_data, report_data, reports_data, named_data, language_data, document}
use Rattle.tokei_json.specs.Layout.{has_counts, is_statistics, all_statistics, is_report, are_reports, all_reports, is_language, are_languages, has_layout}
use Rattle.tokei_json.proofs.Members.{AllMembers, all_put, all_named}
use Rattle.tokei_json.proofs.Names.{right_true}
use Rattle.tokei_json.proofs.NoFloatsInDocuments.{whole_document}

both : (a b : Bool) → a ≡ true → b ≡ true → (a && b) ≡ true
both true b h k = k
both false b h k = h

all_are_statistics : (ms : Members) → AllMembers (λ k d. is_statistics d ≡ true) ms → all_statistics ms ≡ true
all_are_statistics no_members h = refl
all_are_statistics (member k d ms) h = both (is_statistics d) (all_statistics ms) h.0 (all_are_statistics ms h.1)

all_are_reports : (ms : Members) → AllMembers (λ k d. are_reports d ≡ true) ms → all_reports ms ≡ true
all_are_reports no_members h = refl
all_are_reports (member k d ms) h = both (are_reports d) (all_reports ms) h.0 (all_are_reports ms h.1)

abbrev IsTotalOrLanguage : List ℕ → Data → Type 0
IsTotalOrLanguage k d = (bytes_eq k (codes "Total") || is_language d) ≡ true

all_are_languages : (ms : Members) → AllMembers IsTotalOrLanguage ms → are_languages ms ≡ true
all_are_languages no_members h = refl
all_are_languages (member k d ms) h = both (bytes_eq k (codes "Total") || is_language d) (are_languages ms) h.0 (all_are_languages ms h.1)

module _ (rows : List Row) where
  mutual
    unfolding has_counts

    statistics_stand : (s : Statistics) → is_statistics (statistics_data rows s) ≡ true
    statistics_stand (node n bs) = all_are_statistics (blobs_data rows bs no_members) (blobs_stand bs no_members tt)

    blobs_stand : (bs : Blobs) (ms : Members) → AllMembers (λ k d. is_statistics d ≡ true) ms → AllMembers (λ k d. is_statistics d ≡ true) (blobs_data rows bs ms)
    blobs_stand none ms h = h
    blobs_stand (blob k t rest) ms h =
        blobs_stand rest (put (name_in rows k) (statistics_data rows t) ms) (all_put (λ k d. is_statistics d ≡ true) (name_in rows k) (statistics_data rows t) ms (statistics_stand t) h)

  reports_stand : (rs : List ReportValue) → all_items is_report (items_of (map (report_data rows) rs)) ≡ true
  reports_stand [] = refl
  reports_stand (r ∷ rs) = both (is_statistics (statistics_data rows r.stats)) (all_items is_report (items_of (map (report_data rows) rs))) (statistics_stand r.stats) (reports_stand rs)

  children_stand : (es : List (ℕ × List ReportValue)) → all_reports (named_data rows (reports_data rows) es no_members) ≡ true
  children_stand es = all_are_reports _ (all_named (λ k d. are_reports d ≡ true) rows (reports_data rows) es no_members (λ k rs. reports_stand rs) tt)

  language_stands : (l : LanguageValue) → is_language (language_data rows l) ≡ true
  unfolding is_language has_counts
  language_stands l =
      both (all_items is_report (items_of (map (report_data rows) l.reports)) && all_reports (named_data rows (reports_data rows) l.children no_members)) true
      (both (all_items is_report (items_of (map (report_data rows) l.reports)))
      (all_reports (named_data rows (reports_data rows) l.children no_members))
      (reports_stand l.reports) (children_stand l.children))
      refl

  pub document_stands : (es : List (ℕ × LanguageValue)) → has_layout (document rows es) ≡ true
  unfolding has_layout document
  document_stands es =
      let ms : Members = named_data rows (language_data rows) es no_members in
      let total : Data = language_data rows (total_of es) in
      let languages : AllMembers IsTotalOrLanguage (put (codes "Total") total ms) =
      all_put IsTotalOrLanguage (codes "Total") total ms (right_true (bytes_eq (codes "Total") (codes "Total")) (is_language total) (language_stands (total_of es)))
      (all_named IsTotalOrLanguage rows (language_data rows) es no_members
      (λ k l. right_true (bytes_eq (name_in rows k) (codes "Total"))
      (is_language (language_data rows l)) (language_stands l))
      tt) in
      both (not (has_float (document rows es))) _ (ap not (whole_document rows es))
      (both (is_some (get_member (codes "Total") (put (codes "Total") total ms))) (are_languages (put (codes "Total") total ms))
      (ap is_some (get_member-put (codes "Total") total ms)) (all_are_languages (put (codes "Total") total ms) languages))
