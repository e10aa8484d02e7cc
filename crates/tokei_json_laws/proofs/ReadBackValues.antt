-- Statistics, reports and languages are read back from their values.
use Rattle.std.proofs.Common.{◌≡◌, ℕ, ◌<◌, List, [], ◌∷◌, length, map, Option, None, Some, codes, false, refl, sym, ap, ◌∙◌, arith, nat_cmp, Less}
use Rattle.std.proofs.lemmas.Bool.Decides.{nat_tests}
use Rattle.std.specs.List.{AllByRecursion}
use Rattle.std.specs.List.Sorted.{IsStrictlySortedBy}
use Rattle.std.specs.Map.{keys_of}
use Rattle.serde_json.specs.Data.{Data, Members, no_members, member, put}
use Rattle.serde_json.specs.View.{items_of}
use Rattle.tokei_languages.specs.Values.{ReportValue, LanguageValue}
use Rattle.tokei_languages.specs.Summaries.{total_of}
use Rattle.tokei_stats.specs.Ordered.{IsOrdered, AreOrdered, StandBehind}
use Rattle.tokei_stats.specs.Seen.{blobs_of}
use Rattle.tokei_stats.specs.Statistics.{Statistics, Blobs}
use Rattle.tokei_stats.specs.Statistics.Statistics.{node}
use Rattle.tokei_stats.specs.Statistics.Blobs.{none, blob}
use Rattle.tokei_table.specs.Row.{Row}
use Rattle.tokei_table.specs.RowNames.{names_twice}
use Rattle.tokei_languages.specs.Names.{name_in}
use Rattle.tokei_json.specs.Document.{statistics_data, blobs_data, report_data, reports_data, named_data, language_data, document}
use Rattle.tokei_json.specs.LanguageMaps.{language_named}
use Rattle.tokei_earlier.specs.ReadReports.{put_named, put_blob, counts_in, statistics_in, with_blobs, report_in}
use Rattle.tokei_earlier.specs.ReadReports.{all_reports_in, reports_in, with_children}
use Rattle.tokei_earlier.specs.Reading.{language_in, with_languages, languages_in}
use Rattle.tokei_json_laws.specs.Known.{AreKnown, BlobsAreKnown}
use Rattle.tokei_json_laws.proofs.Sound.{ReportsAreSound, ChildrenAreSound, IsSound, LanguagesAreSound}
use Rattle.tokei_earlier.proofs.Insertions.{blobs_of-insert}
use Rattle.tokei_json.proofs.Names.{named_by_name}
use Rattle.tokei_json_laws.proofs.ReadBack.{all_read, Returns, returned, passed}

-- blobs as a list
abbrev entries : Blobs → List (ℕ × Statistics)
entries none = []
entries (blob k t rest) = (k, t) ∷ entries rest

blobs_of-entries : (bs : Blobs) → blobs_of (entries bs) ≡ bs
blobs_of-entries none = refl
blobs_of-entries (blob k t rest) = ap (blob k t) (blobs_of-entries rest)

less : (x y : ℕ) → x < y → nat_cmp x y ≡ Less
less x y h = grind (arith, nat_tests)

all_behind : (k : ℕ) (bs : Blobs) → StandBehind k bs → AllByRecursion (λ y. nat_cmp k y ≡ Less) (keys_of (entries bs))
all_behind k none h = tt
all_behind k (blob j t rest) h = (less k j h.0, all_behind k rest h.1)

entries_sorted : (bs : Blobs) → AreOrdered bs → IsStrictlySortedBy nat_cmp (keys_of (entries bs))
unfolding IsStrictlySortedBy
entries_sorted none h = tt
entries_sorted (blob k t rest) h = (all_behind k rest h.1.0, entries_sorted rest h.1.1)

module _ (rows : List Row) (once : names_twice rows ≡ false) where
  blobs_named : (bs : Blobs) (ms : Members) → blobs_data rows bs ms ≡ named_data rows (statistics_data rows) (entries bs) ms
  blobs_named none ms = refl
  blobs_named (blob k t rest) ms = blobs_named rest (put (name_in rows k) (statistics_data rows t) ms)

  put_as_blob : (o : Option ℕ) (es : List (ℕ × Statistics)) (t : Statistics) → put_blob o (blobs_of es) t ≡ blobs_of (put_named o es t)
  put_as_blob None es t = refl
  put_as_blob (Some k) es t = sym (blobs_of-insert es k t)

  blobs_read : (ms : Members) (es : List (ℕ × Statistics)) → with_blobs rows ms (blobs_of es) ≡ blobs_of (all_read rows (statistics_in rows) ms es)
  blobs_read no_members es = refl
  blobs_read (member k d ms) es =
      ap (with_blobs rows ms) (put_as_blob (language_named rows k) es (statistics_in rows d))
      ∙ blobs_read ms (put_named (language_named rows k) es (statistics_in rows d))

  mutual
    unfolding counts_in

    pub statistics_back : (s : Statistics) → AreKnown (length rows) s → IsOrdered s → statistics_in rows (statistics_data rows s) ≡ s
    statistics_back (node n bs) known ordered =
        ap (node n) (ap (λ ms. with_blobs rows ms none) (blobs_named bs no_members)
        ∙ blobs_read (named_data rows (statistics_data rows) (entries bs) no_members) []
        ∙ ap blobs_of (returned rows (statistics_in rows) (statistics_data rows) (entries bs) (entries_back bs known ordered) (entries_sorted bs ordered))
        ∙ blobs_of-entries bs)

    entries_back : (bs : Blobs) → BlobsAreKnown (length rows) bs → AreOrdered bs → Returns rows (statistics_in rows) (statistics_data rows) (entries bs)
    entries_back none known ordered = tt
    entries_back (blob k t rest) known ordered =
        ((named_by_name rows k known.0 once, statistics_back t known.1.0 ordered.0), entries_back rest known.1.1 ordered.1.1)

  report_back : (r : ReportValue) → AreKnown (length rows) r.stats → IsOrdered r.stats → report_in rows (report_data rows r) ≡ r
  report_back r known ordered = ap (λ s. record r { stats = s }) (statistics_back r.stats known ordered)

  all_reports_back : (rs : List ReportValue) → ReportsAreSound (length rows) rs → all_reports_in rows (items_of (map (report_data rows) rs)) ≡ rs
  all_reports_back [] h = refl
  all_reports_back (r ∷ rs) h = ap (λ x. x ∷ all_reports_in rows (items_of (map (report_data rows) rs))) (report_back r h.0 h.1.0) ∙ ap (λ l. r ∷ l) (all_reports_back rs h.1.1)

  abbrev reports_read : Data → List ReportValue
  reports_read d = reports_in rows (Some d)

  children_read : (ms : Members) (found : List (ℕ × List ReportValue)) → with_children rows ms found ≡ all_read rows reports_read ms found
  children_read no_members found = refl
  children_read (member k d ms) found = children_read ms (put_named (language_named rows k) found (reports_read d))

  children_back : (es : List (ℕ × List ReportValue)) → ChildrenAreSound (length rows) es → Returns rows reports_read (reports_data rows) es
  children_back [] h = tt
  children_back (e ∷ es) h = ((named_by_name rows e.0 h.0 once, all_reports_back e.1 h.1.0), children_back es h.1.1)

  same_language : (l : LanguageValue) (cs : List (ℕ × List ReportValue)) (rs : List ReportValue) → cs ≡ l.children → rs ≡ l.reports → record l { children = cs; reports = rs } ≡ l
  same_language l cs rs e f = ap (λ x. record l { children = x; reports = rs }) e ∙ ap (λ x. record l { reports = x }) f

  language_back : (l : LanguageValue) → IsSound (length rows) l → language_in rows (language_data rows l) ≡ l
  unfolding language_in counts_in
  language_back l h =
      same_language l (with_children rows (named_data rows (reports_data rows) l.children no_members) []) (all_reports_in rows (items_of (map (report_data rows) l.reports)))
      (children_read (named_data rows (reports_data rows) l.children no_members) []
      ∙ returned rows reports_read (reports_data rows) l.children (children_back l.children h.children) h.ordered)
      (all_reports_back l.reports h.reports)

  languages_read : (ms : Members) (found : List (ℕ × LanguageValue)) → with_languages rows ms found ≡ all_read rows (language_in rows) ms found
  languages_read no_members found = refl
  languages_read (member k d ms) found = languages_read ms (put_named (language_named rows k) found (language_in rows d))

  languages_back : (es : List (ℕ × LanguageValue)) → LanguagesAreSound (length rows) es → Returns rows (language_in rows) (language_data rows) es
  languages_back [] h = tt
  languages_back (e ∷ es) h = ((named_by_name rows e.0 h.0 once, language_back e.1 h.1.0), languages_back es h.1.1)

  pub document_back : (es : List (ℕ × LanguageValue)) → LanguagesAreSound (length rows) es → IsStrictlySortedBy nat_cmp (keys_of es)
      → language_named rows (codes "Total") ≡ None → languages_in rows (document rows es) ≡ es
  unfolding document
  document_back es h sorted unnamed =
      languages_read (put (codes "Total") (language_data rows (total_of es)) (named_data rows (language_data rows) es no_members)) []
      ∙ passed rows (language_in rows) (codes "Total") (language_data rows (total_of es)) (named_data rows (language_data rows) es no_members) [] unnamed
      ∙ returned rows (language_in rows) (language_data rows) es (languages_back es h) sorted
