-- What the languages of a run without earlier results hold.
use Rattle.std.proofs.Common.{◌≡◌, ℕ, ◌<◌, ◌≤◌, List, [], ◌∷◌, ◌++◌, length, Option, None, Some, Ok, option_map, refl, sym, ap, subst, ◌∙◌, arith, nat_cmp, Ordering, Less, Equal, Greater}
use Rattle.std.specs.Bool.{⊤}
use Rattle.std.specs.List.{AllByRecursion}
use Rattle.std.specs.List.Sorted.{IsStrictlySortedBy}
use Rattle.std.specs.Map.{keys_of}
use Rattle.std.specs.Ordering.{match_ordering}
use Rattle.std.proofs.lemmas.Bool.Decides.{nat_tests}
use Rattle.serde_json.specs.Data.{depth}
use Rattle.serde_json.specs.Read.{read}
use Rattle.serde_json.specs.Written.{compact_text}
use Rattle.tokei.specs.Runs.{languages_after}
use Rattle.tokei_config.specs.Seen.{settings_of}
use Rattle.tokei_config.specs.Settings.{additions_in}
use Rattle.tokei_count.specs.Languages as of_table
use Rattle.tokei_count.specs.PlainReading.{outermost_levels}
use Rattle.tokei_count.proofs.KnownReadings.{reading-known}
use Rattle.tokei_count.proofs.ShallowReadings.{reading-shallow}
use Rattle.tokei_count.proofs.TableBounds.{have_tokens}
use Rattle.tokei_bytes.specs.Decoding.{decoded}
use Rattle.tokei_earlier.specs.Outcome.{outcome_of_text}
use Rattle.tokei_files.specs.Configs.{counting_by}
use Rattle.tokei_files.specs.Contents.{content_at}
use Rattle.tokei_files.specs.ContentStatistics.{stats_in}
use Rattle.tokei_files.specs.Files.{Counting, language_of_file}
use Rattle.tokei_files.proofs.ExtendedLength.{same_length}
use Rattle.tokei_folders.specs.Tree.{Tree}
use Rattle.tokei.specs.declared.job.Job.{Job}
use Rattle.tokei.specs.Earlier.{earlier_of}
use Rattle.tokei_json.specs.Document.{document}
use Rattle.tokei_languages.specs.Maps.{put_at, merged}
use Rattle.tokei_languages.specs.Merging.{appended, blob_reports, merged_language, merged_languages}
use Rattle.tokei_languages.specs.Renewing.{renewed_languages}
use Rattle.tokei_languages.specs.Values.{ReportValue, LanguageValue}
use Rattle.tokei_statistics.specs.Runs.{language_from, languages_in, languages_of_file, languages_of_run}
use Rattle.tokei_statistics.proofs.Merges.{IsBefore, Ascends, ascends_merged}
use Rattle.tokei_statistics.proofs.Running.{IsLaidOut, ascends_appended, languages_join}
use Rattle.tokei_stats.specs.Ordered.{IsOrdered, AreOrdered}
use Rattle.tokei_stats.specs.Statistics.{Statistics, Blobs}
use Rattle.tokei_stats.specs.Statistics.Statistics.{node}
use Rattle.tokei_stats.specs.Statistics.Blobs.{none, blob}
use Rattle.tokei.specs.Counted.{counting_of, files_of}
use Rattle.tokei_table.proofs.ExtendedTables.{extended_well_formed}
use Rattle.tokei_table.specs.Extended.{extensions_of}
use Rattle.tokei_table.specs.Row.{Row}
use Rattle.tokei_table.specs.WellFormed.{IsWellFormed}
use Rattle.tokei_walk.specs.declared.kept_file.KeptFile.{KeptFile}
use Rattle.tokei_json_laws.specs.InOrder.{ReportsAreInOrder, ListsAreInOrder, ValuesAreInOrder}
use Rattle.tokei_json_laws.specs.Known.{AreKnown, BlobsAreKnown, ReportsAreKnown, ChildrenAreKnown, LanguagesAreKnown}
use Rattle.tokei_json_laws.specs.Levels.{levels, blob_levels, ReportsWithin, ListsWithin, LanguagesWithin}
use Rattle.tokei_json_laws.specs.RunDocuments.{languages_counted, CanBeReadBack, IsDocument, CountedLanguagesCanBeReadBack, DocumentsOfRunsReadBack}
use Rattle.tokei_json_laws.proofs.Depth.{document_within}
use Rattle.tokei_json_laws.proofs.FileLanguages.{IsBelow, file_below}
use Rattle.tokei_json_laws.proofs.OrderedReadings.{reading_ordered}
use Rattle.tokei_json_laws.proofs.ReadDocument.{value_back, text_back}

-- entries whose keys meet K and whose values meet Q

module _ {S : Type 0} (K : ℕ → Type 0) (Q : S → Type 0) where
  abbrev pub Each : List (ℕ × S) → Type 0
  Each [] = ⊤
  Each (e ∷ es) = K e.0 × (Q e.1 × Each es)

  put_by : (o : Ordering) (f : S → S) (s : S) (e : ℕ × S) (es more : List (ℕ × S)) (k : ℕ) → K k → Q s → ((x : S) → Q x → Q (f x)) → K e.0 → Q e.1 → Each es → Each more
      → Each (match_ordering o ((k, s) ∷ e ∷ es) ((e.0, f e.1) ∷ es) (e ∷ more))
  put_by Less f s e es more k here new stays key value rest later = (here, (new, (key, (value, rest))))
  put_by Equal f s e es more k here new stays key value rest later = (key, (stays e.1 value, rest))
  put_by Greater f s e es more k here new stays key value rest later = (key, (value, later))

  each_put : (f : S → S) (s : S) (es : List (ℕ × S)) (k : ℕ) → K k → Q s → ((x : S) → Q x → Q (f x)) → Each es → Each (put_at f s es k)
  each_put f s [] k here new stays h = (here, (new, tt))
  each_put f s (e ∷ es) k here new stays h =
      put_by (nat_cmp k e.0) f s e es (put_at f s es k) k here new stays h.0 h.1.0 h.1.1 (each_put f s es k here new stays h.1.1)

  each_merged : (join : S → S → S) → ((x y : S) → Q x → Q y → Q (join x y)) → (a b : List (ℕ × S)) → Each a → Each b → Each (merged join a b)
  each_merged join closed a [] h k = h
  each_merged join closed a (e ∷ es) h k =
      each_merged join closed (put_at (λ s. join s e.1) e.1 a e.0) es
      (each_put (λ s. join s e.1) e.1 a e.0 k.0 k.1.0 (λ x q. closed x e.1 q k.1.0) h) k.1.1

-- the keys ascend

below_first : {S : Type 0} (es : List (ℕ × S)) (j k : ℕ) → j < k → IsBefore k es → IsBefore j es
below_first [] j k below h = tt
below_first (e ∷ es) j k below h = omega arith

less : (x y : ℕ) → x < y → nat_cmp x y ≡ Less
less x y h = grind (arith, nat_tests)

all_behind : {S : Type 0} (k : ℕ) (es : List (ℕ × S)) → IsBefore k es → Ascends es → AllByRecursion (λ y. nat_cmp k y ≡ Less) (keys_of es)
all_behind k [] h up = tt
all_behind k (e ∷ es) h up = (less k e.0 h, all_behind k es (below_first es k e.0 h up.0) up.1)

strictly : {S : Type 0} (es : List (ℕ × S)) → Ascends es → IsStrictlySortedBy nat_cmp (keys_of es)
unfolding IsStrictlySortedBy
strictly [] up = tt
strictly (e ∷ es) up = (all_behind e.0 es up.0 up.1, strictly es up.1)

-- reports of the first n languages, at most 50 deep and in order

module _ (n : ℕ) where
  pub record IsGood (s : Statistics) : Type 0 where
    pub known : AreKnown n s
    pub shallow : levels s ≤ 50
    pub ordered : IsOrdered s

  abbrev pub AllGood : List ReportValue → Type 0
  AllGood [] = ⊤
  AllGood (r ∷ rs) = IsGood r.stats × AllGood rs

  both_good : (rs ss : List ReportValue) → AllGood rs → AllGood ss → AllGood (rs ++ ss)
  both_good [] ss h k = k
  both_good (r ∷ rs) ss h k = (h.0, both_good rs ss h.1 k)

  abbrev pub ListsGood : List (ℕ × List ReportValue) → Type 0
  ListsGood es = Each (λ k. k < n) AllGood es

  appended_good : (a b : List (ℕ × List ReportValue)) → ListsGood a → ListsGood b → ListsGood (appended a b)
  appended_good a b h k = each_merged (λ k. k < n) AllGood (λ rs more. rs ++ more) both_good a b h k

  pub record IsGoodLanguage (l : LanguageValue) : Type 0 where
    pub reports : AllGood l.reports
    pub children : ListsGood l.children
    pub ascends : Ascends l.children

  merged_good : (s t : LanguageValue) → IsGoodLanguage s → IsGoodLanguage t → IsGoodLanguage (merged_language s t)
  merged_good s t h k = record {
    reports = both_good s.reports t.reports h.reports k.reports;
    children = appended_good s.children t.children h.children k.children;
    ascends = ascends_appended s.children t.children h.ascends;
  }

  abbrev pub LanguagesGood : List (ℕ × LanguageValue) → Type 0
  LanguagesGood es = Each (λ k. k < n) IsGoodLanguage es

  all_merged_good : (a b : List (ℕ × LanguageValue)) → LanguagesGood a → LanguagesGood b → LanguagesGood (merged_languages a b)
  all_merged_good a b h k = each_merged (λ k. k < n) IsGoodLanguage merged_language merged_good a b h k

  renewed_good : (es : List (ℕ × LanguageValue)) → LanguagesGood es → LanguagesGood (renewed_languages es)
  renewed_good [] h = tt
  renewed_good (e ∷ es) h =
      (h.0, (record { reports = h.1.0.reports; children = h.1.0.children; ascends = h.1.0.ascends }, renewed_good es h.1.1))

  -- the reports of the blobs

  blobs_good : (name : List ℕ) (bs : Blobs) → BlobsAreKnown n bs → blob_levels bs ≤ 50 → AreOrdered bs → ListsGood (blob_reports name bs)
  blobs_good name none h k o = tt
  blobs_good name (blob j s rest) h k o =
      (h.0, ((record { known = h.1.0; shallow = omega (arith, k); ordered = o.0 }, tt), blobs_good name rest h.1.1 (omega (arith, k)) o.1.1))

  from_good : (path : List ℕ) (o : Option Statistics) → ((s : Statistics) → o ≡ Some s → IsGood s) → IsGoodLanguage (language_from path o)
  from_good path None h = record { reports = tt; children = tt; ascends = tt }
  from_good path (Some (node c bs)) h =
      let good = h (node c bs) refl in
      let inside = blob_reports path bs in
      record {
        reports = (good, tt);
        children = appended_good [] inside tt (blobs_good path bs good.known good.shallow good.ordered);
        ascends = ascends_appended [] inside tt;
      }

  -- what is good is known, shallow and in order

  known_reports : (rs : List ReportValue) → AllGood rs → ReportsAreKnown n rs
  known_reports [] h = tt
  known_reports (r ∷ rs) h = (h.0.known, known_reports rs h.1)

  known_lists : (es : List (ℕ × List ReportValue)) → ListsGood es → ChildrenAreKnown n es
  known_lists [] h = tt
  known_lists (e ∷ es) h = (h.0, (known_reports e.1 h.1.0, known_lists es h.1.1))

  known_languages : (es : List (ℕ × LanguageValue)) → LanguagesGood es → LanguagesAreKnown n es
  known_languages [] h = tt
  known_languages (e ∷ es) h =
      (h.0, (known_reports e.1.reports h.1.0.reports, (known_lists e.1.children h.1.0.children, known_languages es h.1.1)))

  shallow_reports : (rs : List ReportValue) → AllGood rs → ReportsWithin 50 rs
  shallow_reports [] h = tt
  shallow_reports (r ∷ rs) h = (h.0.shallow, shallow_reports rs h.1)

  shallow_lists : (es : List (ℕ × List ReportValue)) → ListsGood es → ListsWithin 50 es
  shallow_lists [] h = tt
  shallow_lists (e ∷ es) h = (shallow_reports e.1 h.1.0, shallow_lists es h.1.1)

  shallow_languages : (es : List (ℕ × LanguageValue)) → LanguagesGood es → LanguagesWithin 50 es
  shallow_languages [] h = tt
  shallow_languages (e ∷ es) h =
      (shallow_reports e.1.reports h.1.0.reports, (shallow_lists e.1.children h.1.0.children, shallow_languages es h.1.1))

  ordered_reports : (rs : List ReportValue) → AllGood rs → ReportsAreInOrder rs
  ordered_reports [] h = tt
  ordered_reports (r ∷ rs) h = (h.0.ordered, ordered_reports rs h.1)

  ordered_lists : (es : List (ℕ × List ReportValue)) → ListsGood es → ListsAreInOrder es
  ordered_lists [] h = tt
  ordered_lists (e ∷ es) h = (ordered_reports e.1 h.1.0, ordered_lists es h.1.1)

  ordered_languages : (es : List (ℕ × LanguageValue)) → LanguagesGood es → ValuesAreInOrder es
  ordered_languages [] h = tt
  ordered_languages (e ∷ es) h = (
    record {
      reports = ordered_reports e.1.reports h.1.0.reports;
      lists = ordered_lists e.1.children h.1.0.children;
      children = strictly e.1.children h.1.0.ascends;
    },
    ordered_languages es h.1.1,
  )

renewed_before : (k : ℕ) (es : List (ℕ × LanguageValue)) → IsBefore k es → IsBefore k (renewed_languages es)
renewed_before k [] h = tt
renewed_before k (e ∷ es) h = h

renewed_ascends : (es : List (ℕ × LanguageValue)) → Ascends es → Ascends (renewed_languages es)
renewed_ascends [] h = tt
renewed_ascends (e ∷ es) h = (renewed_before e.0 es h.0, renewed_ascends es h.1)

-- the languages of a run

module _ (c : Counting) (t : Tree) (well : IsWellFormed c.rows) where
  reading_good : (l : ℕ) (content : List ℕ) → l < length c.rows → IsGood (length c.rows) (stats_in c.rows c.docs l content)
  unfolding stats_in
  reading_good l content known = record {
    known = reading-known c.rows (have_tokens c.rows well) c.docs outermost_levels l (decoded content) known;
    shallow = reading-shallow c.rows (have_tokens c.rows well) c.docs outermost_levels l (decoded content);
    ordered = reading_ordered (of_table.languages_of c.rows) c.docs outermost_levels l (decoded content);
  }

  content_good : (l : ℕ) (content : Option (List ℕ)) (path : List ℕ) → l < length c.rows
      → IsGoodLanguage (length c.rows) (language_from path (option_map (stats_in c.rows c.docs l) content))
  content_good l None path known = from_good (length c.rows) path None (λ s e. absurd (cc))
  content_good l (Some content) path known =
      from_good (length c.rows) path (Some (stats_in c.rows c.docs l content))
      (λ s e. let same : stats_in c.rows c.docs l content ≡ s = cc in subst (IsGood (length c.rows)) same (reading_good l content known))

  in_good : (file : KeptFile) (o : Option ℕ) → IsBelow (length c.rows) o → LanguagesGood (length c.rows) (languages_in c t file o)
  in_good file None h = tt
  in_good file (Some l) h = (h, (content_good l (content_at t file.place) file.path h, tt))

  file_good : (file : KeptFile) → LanguagesGood (length c.rows) (languages_of_file c t file)
  unfolding languages_of_file
  file_good file = in_good file (language_of_file c t file) (file_below c t file)

  run_good : (files : List KeptFile) → LanguagesGood (length c.rows) (languages_of_run c t files)
  run_good [] = tt
  run_good (file ∷ files) =
      all_merged_good (length c.rows) (languages_of_file c t file) (languages_of_run c t files) (file_good file) (run_good files)

pub counted_read_back : CountedLanguagesCanBeReadBack
counted_read_back rows well s t files =
    let by = counting_by rows s in
    let grown : IsWellFormed by.rows = extended_well_formed (additions_in s) rows well in
    let many : length by.rows ≡ length rows = same_length (additions_in s) rows 0 (extensions_of rows) in
    let run = languages_of_run by t files in
    let good : LanguagesGood (length by.rows) (languages_counted rows s t files) =
    renewed_good (length by.rows) (merged_languages [] run) (all_merged_good (length by.rows) [] run tt (run_good by t grown files)) in
    let up : Ascends (merged_languages [] run) = ascends_merged merged_language IsLaidOut languages_join [] run tt in
    record {
      known = subst (λ (n : ℕ). LanguagesAreKnown n (languages_counted rows s t files)) many (known_languages (length by.rows) (languages_counted rows s t files) good);
      shallow = shallow_languages (length by.rows) (languages_counted rows s t files) good;
      ordered = record {
        languages = strictly (languages_counted rows s t files) (renewed_ascends (merged_languages [] run) up);
        values = ordered_languages (length by.rows) (languages_counted rows s t files) good;
      };
    }

-- a document nests no deeper than what is read
shallow_document : (rows : List Row) (es : List (ℕ × LanguageValue)) → LanguagesWithin 50 es → depth (document rows es) ≤ 127
shallow_document rows es h = let within : depth (document rows es) ≤ 107 = document_within rows es 50 h in omega (arith, within)

-- the document of languages that can be read back
document_of : (rows : List Row) (es : List (ℕ × LanguageValue)) (text : List ℕ) → IsWellFormed rows → CanBeReadBack rows es → IsDocument rows es text → outcome_of_text rows text ≡ Ok es
document_of rows es text well can doc = text_back rows es text doc.written doc.value (value_back rows es well can.known can.ordered)

-- the text that is printed of languages
pub printed_back : (rows : List Row) (es shown : List (ℕ × LanguageValue)) (text : List ℕ) → IsWellFormed rows → CanBeReadBack rows es → shown ≡ es → text ≡ compact_text (document rows shown)
    → (depth (document rows shown) ≤ 127 → read text ≡ Some (document rows shown)) → outcome_of_text rows text ≡ Ok es
printed_back rows es shown text well can same written back =
    document_of rows es text well can (record {
      written = written ∙ ap (λ (x : List (ℕ × LanguageValue)). compact_text (document rows x)) same;
      value =
          back (subst (λ (x : List (ℕ × LanguageValue)). depth (document rows x) ≤ 127) (sym same) (shallow_document rows es can.shallow))
          ∙ ap (λ (x : List (ℕ × LanguageValue)). Some (document rows x)) same;
    })

-- a run without earlier results has the languages of its files alone
alone : (rows : List Row) (job : Job) (t : Tree) → earlier_of job.earlier ≡ [] → languages_counted rows (settings_of job.config) t (files_of job t) ≡ languages_after rows job t
unfolding languages_after
alone rows job t nothing =
    ap (λ (es : List (ℕ × LanguageValue)). renewed_languages (merged_languages es (languages_of_run (counting_of rows job) t (files_of job t)))) (sym nothing)

pub documents_of_runs : DocumentsOfRunsReadBack
documents_of_runs rows well job nothing t text doc =
    document_of rows (languages_after rows job t) text well
    (subst (CanBeReadBack rows) (alone rows job t nothing) (counted_read_back rows well (settings_of job.config) t (files_of job t))) doc
