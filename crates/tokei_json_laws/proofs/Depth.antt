-- How deep a document nests.
use Rattle.std.proofs.Common.{ℕ, suc, ◌+◌, ◌*◌, ◌≤◌, max, List, [], ◌∷◌, map, codes, arith}
use Rattle.std.specs.List.{AllByRecursion}
use Rattle.serde_json.specs.Data.{Data, Members, no_members, member, put, depth, items_depth, members_depth}
use Rattle.serde_json.specs.View.{items_of}
use Rattle.tokei_languages.specs.Values.{ReportValue, LanguageValue}
use Rattle.tokei_languages.specs.Summaries.{total_of, reports_by_language}
use Rattle.tokei_stats.specs.Statistics.{Statistics, Blobs}
use Rattle.tokei_stats.specs.Statistics.Statistics.{node}
use Rattle.tokei_stats.specs.Statistics.Blobs.{none, blob}
use Rattle.tokei_table.specs.Row.{Row}
use Rattle.tokei_languages.specs.Names.{name_in}
use Rattle.tokei_json.specs.Document.{statistics_data, blobs_data, report_data, reports_data, named_data, language_data, document}
use Rattle.tokei_json_laws.specs.Levels.{levels, blob_levels, ReportsWithin, ListsWithin, LanguagesWithin}
use Rattle.tokei_json.proofs.Members.{AllMembers, all_put, all_named_each}

max_within : (a b m : ℕ) → a ≤ m → b ≤ m → max a b ≤ m
max_within a b m h k = omega arith

members_within : (m : ℕ) (ms : Members) → AllMembers (λ k d. depth d ≤ m) ms → members_depth ms ≤ m
members_within m no_members h = omega arith
members_within m (member k d ms) h = max_within (depth d) (members_depth ms) m h.0 (members_within m ms h.1)

statistics_bound : (b m : ℕ) → b ≤ m → suc (max 0 (max (suc b) (max 0 (max 0 0)))) ≤ m + 2
statistics_bound b m h = omega arith

left_within : (a b m : ℕ) → max (a + 1) b ≤ m → 2 * a + 2 ≤ 2 * m
left_within a b m h = omega arith

right_within : (a b m : ℕ) → max (a + 1) b ≤ m → b ≤ m
right_within a b m h = omega arith

same_within : (a : ℕ) → a ≤ a
same_within a = omega arith

joined_within : (a b c : ℕ) → a ≤ b → b ≤ c → a ≤ c
joined_within a b c h k = omega arith

module _ (rows : List Row) where
  mutual
    statistics_within : (s : Statistics) (m : ℕ) → levels s ≤ m → depth (statistics_data rows s) ≤ 2 * m + 2
    statistics_within (node c bs) m h =
        statistics_bound (members_depth (blobs_data rows bs no_members)) (2 * m) (members_within (2 * m) (blobs_data rows bs no_members) (blobs_within bs no_members m h tt))

    blobs_within : (bs : Blobs) (ms : Members) (m : ℕ) → blob_levels bs ≤ m → AllMembers (λ k d. depth d ≤ 2 * m) ms → AllMembers (λ k d. depth d ≤ 2 * m) (blobs_data rows bs ms)
    blobs_within none ms m h all = all
    blobs_within (blob k t rest) ms m h all =
        blobs_within rest (put (name_in rows k) (statistics_data rows t) ms) m (right_within (levels t) (blob_levels rest) m h)
        (all_put (λ k d. depth d ≤ 2 * m) (name_in rows k) (statistics_data rows t) ms
        (joined_within (depth (statistics_data rows t)) (2 * levels t + 2) (2 * m) (statistics_within t (levels t) (same_within (levels t))) (left_within (levels t) (blob_levels rest) m h)) all)

  report_bound : (a m : ℕ) → a ≤ 2 * m + 2 → suc (max 0 (max a 0)) ≤ 2 * m + 3
  report_bound a m h = omega arith

  reports_within : (rs : List ReportValue) (m : ℕ) → ReportsWithin m rs → items_depth (items_of (map (report_data rows) rs)) ≤ 2 * m + 3
  reports_within [] m h = omega arith
  reports_within (r ∷ rs) m h =
      max_within (depth (report_data rows r)) (items_depth (items_of (map (report_data rows) rs))) (2 * m + 3)
      (report_bound (depth (statistics_data rows r.stats)) m (statistics_within r.stats m h.0)) (reports_within rs m h.1)

  list_bound : (a m : ℕ) → a ≤ 2 * m + 3 → suc a ≤ 2 * m + 4
  list_bound a m h = omega arith

  lists_within : (es : List (ℕ × List ReportValue)) (m : ℕ) → ListsWithin m es → AllByRecursion (λ e. depth (reports_data rows e.1) ≤ 2 * m + 4) es
  lists_within [] m h = tt
  lists_within (e ∷ es) m h = (list_bound (items_depth (items_of (map (report_data rows) e.1))) m (reports_within e.1 m h.0), lists_within es m h.1)

  language_bound : (a b m : ℕ) → a ≤ 2 * m + 4 → b ≤ 2 * m + 3 → suc (max 0 (max (suc a) (max 0 (max 0 (max 0 (max (suc b) 0)))))) ≤ 2 * m + 6
  language_bound a b m h k = omega arith

  language_within : (l : LanguageValue) (m : ℕ) → ReportsWithin m l.reports → ListsWithin m l.children → depth (language_data rows l) ≤ 2 * m + 6
  language_within l m h k =
      language_bound (members_depth (named_data rows (reports_data rows) l.children no_members)) (items_depth (items_of (map (report_data rows) l.reports))) m
      (members_within (2 * m + 4) (named_data rows (reports_data rows) l.children no_members)
      (all_named_each (λ k d. depth d ≤ 2 * m + 4) rows (reports_data rows) l.children no_members (lists_within l.children m k) tt))
      (reports_within l.reports m h)

  languages_within : (es : List (ℕ × LanguageValue)) (m : ℕ) → LanguagesWithin m es → AllByRecursion (λ e. depth (language_data rows e.1) ≤ 2 * m + 6) es
  languages_within [] m h = tt
  languages_within (e ∷ es) m h = (language_within e.1 m h.0 h.1.0, languages_within es m h.1.1)

  by_language_within : (es : List (ℕ × LanguageValue)) (m : ℕ) → LanguagesWithin m es → ListsWithin m (reports_by_language es)
  by_language_within [] m h = tt
  by_language_within (e ∷ es) m h = (h.0, by_language_within es m h.1.1)

  document_bound : (a m : ℕ) → a ≤ 2 * m + 6 → suc a ≤ 2 * m + 7
  document_bound a m h = omega arith

  pub document_within : (es : List (ℕ × LanguageValue)) (m : ℕ) → LanguagesWithin m es → depth (document rows es) ≤ 2 * m + 7
  unfolding document
  document_within es m h =
      let others : Members = named_data rows (language_data rows) es no_members in
      let total : Data = language_data rows (total_of es) in
      document_bound (members_depth (put (codes "Total") total others)) m
      (members_within (2 * m + 6) (put (codes "Total") total others)
      (all_put (λ k d. depth d ≤ 2 * m + 6) (codes "Total") total others (language_within (total_of es) m tt (by_language_within es m h))
      (all_named_each (λ k d. depth d ≤ 2 * m + 6) rows (language_data rows) es no_members (languages_within es m h) tt)))
