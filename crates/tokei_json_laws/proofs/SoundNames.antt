-- Each object of a document whose members are languages names known languages, and each of them once.
use Rattle.std.proofs.Common.{◌≡◌, ℕ, ◌<◌, List, [], ◌∷◌, length, map, Bool, true, false, ◌&&◌, ◌||◌, not, Option, None, Some, is_some, codes, bytes_eq, refl, sym, ap, ◌∙◌, nat_cmp, Ordering, Less, Equal, Greater, true≢false, ◌⊎◌, inl, inr}
use Rattle.std.proofs.lemmas.Slice.Eq.{bytes_eq-Decides}
use Rattle.std.specs.List.{AllByRecursion, list_any}
use Rattle.std.specs.Ordering.{match_ordering}
use Rattle.std.specs.Cmp.Lexicographic.{slice_cmp}
use Rattle.serde_json.specs.Data.{Data, object, Members, no_members, member, put}
use Rattle.serde_json.specs.Find.{get_member}
use Rattle.serde_json.specs.View.{items_of}
use Rattle.tokei_languages.specs.Values.{ReportValue, LanguageValue}
use Rattle.tokei_languages.specs.Summaries.{total_of}
use Rattle.tokei_stats.specs.Statistics.{Statistics, Blobs}
use Rattle.tokei_stats.specs.Statistics.Statistics.{node}
use Rattle.tokei_stats.specs.Statistics.Blobs.{none, blob}
use Rattle.tokei_json_tree.specs.Shapes.{all_items}
use Rattle.tokei_table.specs.Lookups.{row_at}
use Rattle.tokei_table.specs.Row.{Row}
use Rattle.tokei_table.specs.RowNames.{names_twice, is_total}
use Rattle.tokei_languages.specs.Names.{name_in}
use Rattle.tokei_json.specs.Document.{statistics_data, blobs_data, report_data, reports_data, named_data, language_data, document}
use Rattle.tokei_json.specs.LanguageMaps.{language_named, all_names, has_both, names_once, passes, statistics_pass, each_passes, report_passes, reports_pass, lists_pass, language_passes, languages_pass, all_known, all_once}
use Rattle.tokei_json_laws.specs.Known.{AreKnown, BlobsAreKnown}
use Rattle.tokei_json_laws.proofs.Sound.{ReportsAreSound, ChildrenAreSound, IsSound, LanguagesAreSound}
use Rattle.tokei_json.specs.declared.language_maps.MapTest.TheVariants.{Known, Once}
use Rattle.tokei_json.proofs.Members.{AllMembers, all_put, all_named_each, all_mono, same_text}
use Rattle.tokei_json.proofs.Names.{named_by_name, named_by_key, total_unnamed, right_true}

both : (a b : Bool) → a ≡ true → b ≡ true → (a && b) ≡ true
both true b h k = k
both false b h k = h

all_pass : (test : List ℕ → Bool) (ms : Members) → AllMembers (λ k d. test k ≡ true) ms → all_names test ms ≡ true
all_pass test no_members h = refl
all_pass test (member k d ms) h = both (test k) (all_names test ms) h.0 (all_pass test ms h.1)

-- a text that no member has
absent_by : (o : Ordering) (name l : List ℕ) (d : Data) (rest : Option Data) → slice_cmp nat_cmp name l ≡ o → (name ≡ l → ⊥) → rest ≡ None → match_ordering o rest (Some d) rest ≡ None
absent_by Less name l d rest by other h = h
absent_by Equal name l d rest by other h = absurd (other (same_text name l by))
absent_by Greater name l d rest by other h = h

absent : (name : List ℕ) (ms : Members) → AllMembers (λ k d. name ≡ k → ⊥) ms → get_member name ms ≡ None
absent name no_members h = refl
absent name (member l d ms) h = absent_by (slice_cmp nat_cmp name l) name l d (get_member name ms) refl h.0 (absent name ms h.1)

module _ (rows : List Row) where
  -- the name of a language of the table
  pub record IsNamed (k : List ℕ) : Type 0 where
    pub language : ℕ
    pub within : language < length rows
    pub name : k ≡ name_in rows language

  abbrev TopName : List ℕ → Type 0
  TopName k = (k ≡ codes "Total") ⊎ IsNamed k

  module _ (once : names_twice rows ≡ false) (untotalled : list_any is_total rows ≡ false) where
    found : (k : List ℕ) (n : IsNamed k) → language_named rows k ≡ Some n.language
    found k n = ap (language_named rows) n.name ∙ named_by_name rows n.language n.within once

    some_injective : (a b : ℕ) → Some a ≡ Some b → a ≡ b
    some_injective a b e = cc

    -- a key that isn't the name of its own language is no member
    key_apart : (i : ℕ) → i < length rows → bytes_eq (row_at rows i).key (row_at rows i).name ≡ false → (k : List ℕ) → TopName k → (row_at rows i).key ≡ k → ⊥
    key_apart i h differ k (inl total) e =
        let both_ways : Some i ≡ None = sym (named_by_key rows i h once) ∙ ap (language_named rows) (e ∙ total) ∙ total_unnamed rows untotalled in
        cc
    key_apart i h differ k (inr n) e =
        let same : i ≡ n.language = some_injective i n.language (sym (named_by_key rows i h once) ∙ ap (language_named rows) e ∙ found k n) in
        let named : (row_at rows i).key ≡ (row_at rows i).name = e ∙ n.name ∙ ap (name_in rows) (sym same) in
        true≢false (sym ((bytes_eq-Decides (row_at rows i).key (row_at rows i).name).1 named) ∙ differ)

    not_both : (b c d : Bool) → (b ≡ false → c ≡ false) → not (not b && (c && d)) ≡ true
    not_both true c d f = refl
    not_both false true d f = absurd (true≢false (f refl))
    not_both false false d f = refl

    once_at : (ms : Members) (k : List ℕ) → TopName k → AllMembers (λ l d. TopName l) ms → not (has_both rows (object ms) (language_named rows k)) ≡ true
    once_at ms k (inl total) all = ap (λ o. not (has_both rows (object ms) o)) (ap (language_named rows) total ∙ total_unnamed rows untotalled)
    once_at ms k (inr n) all =
        ap (λ o. not (has_both rows (object ms) o)) (found k n)
        ∙ not_both (bytes_eq (row_at rows n.language).key (row_at rows n.language).name) (is_some (get_member (row_at rows n.language).key ms)) (is_some (get_member (row_at rows n.language).name ms))
        (λ differ. ap is_some (absent (row_at rows n.language).key ms
        (all_mono (λ l d. TopName l) (λ l d. (row_at rows n.language).key ≡ l → ⊥) ms (λ l d t. key_apart n.language n.within differ l t) all)))

    top_once : (ms : Members) → AllMembers (λ k d. TopName k) ms → names_once rows (object ms) ≡ true
    top_once ms all = all_pass (λ k. not (has_both rows (object ms) (language_named rows k))) ms
        (all_mono (λ k d. TopName k) (λ k d. not (has_both rows (object ms) (language_named rows k)) ≡ true) ms (λ k d t. once_at ms k t all) all)

    named_known : (ms : Members) → AllMembers (λ k d. IsNamed k) ms → passes rows Known (object ms) ≡ true
    named_known ms all = all_pass (λ k. is_some (language_named rows k)) ms
        (all_mono (λ k d. IsNamed k) (λ k d. is_some (language_named rows k) ≡ true) ms (λ k d n. ap is_some (found k n)) all)

    named_once : (ms : Members) → AllMembers (λ k d. IsNamed k) ms → passes rows Once (object ms) ≡ true
    named_once ms all = top_once ms (all_mono (λ k d. IsNamed k) (λ k d. TopName k) ms (λ k d n. inr n) all)

    module _ (test : Data → Bool) (accepts : (ms : Members) → AllMembers (λ k d. IsNamed k) ms → test (object ms) ≡ true) where
      abbrev BlobPasses : List ℕ → Data → Type 0
      BlobPasses k d = IsNamed k × (statistics_pass test d ≡ true)

      each : (ms : Members) → AllMembers BlobPasses ms → each_passes test ms ≡ true
      each no_members h = refl
      each (member k d ms) h = both (statistics_pass test d) (each_passes test ms) h.0.1 (each ms h.1)

      mutual
        statistics_accepted : (s : Statistics) → AreKnown (length rows) s → statistics_pass test (statistics_data rows s) ≡ true
        statistics_accepted (node n bs) known =
            let all : AllMembers BlobPasses (blobs_data rows bs no_members) = blobs_accepted bs no_members known tt in
            both (test (object (blobs_data rows bs no_members))) (each_passes test (blobs_data rows bs no_members))
            (accepts (blobs_data rows bs no_members) (all_mono BlobPasses (λ k d. IsNamed k) (blobs_data rows bs no_members) (λ k d h. h.0) all))
            (each (blobs_data rows bs no_members) all)

        blobs_accepted : (bs : Blobs) (ms : Members) → BlobsAreKnown (length rows) bs → AllMembers BlobPasses ms → AllMembers BlobPasses (blobs_data rows bs ms)
        blobs_accepted none ms known h = h
        blobs_accepted (blob k t rest) ms known h =
            blobs_accepted rest (put (name_in rows k) (statistics_data rows t) ms) known.1.1
            (all_put BlobPasses (name_in rows k) (statistics_data rows t) ms (record { language = k; within = known.0; name = refl }, statistics_accepted t known.1.0) h)

      reports_accepted : (rs : List ReportValue) → ReportsAreSound (length rows) rs → reports_pass test (reports_data rows rs) ≡ true
      reports_accepted [] h = refl
      reports_accepted (r ∷ rs) h =
          both (statistics_pass test (statistics_data rows r.stats)) (all_items (report_passes test) (items_of (map (report_data rows) rs)))
          (statistics_accepted r.stats h.0) (reports_accepted rs h.1.1)

      abbrev ChildPasses : List ℕ → Data → Type 0
      ChildPasses k d = IsNamed k × (reports_pass test d ≡ true)

      children_accepted : (es : List (ℕ × List ReportValue)) → ChildrenAreSound (length rows) es → AllByRecursion (λ e. ChildPasses (name_in rows e.0) (reports_data rows e.1)) es
      children_accepted [] h = tt
      children_accepted (e ∷ es) h = ((record { language = e.0; within = h.0; name = refl }, reports_accepted e.1 h.1.0), children_accepted es h.1.1)

      lists : (ms : Members) → AllMembers ChildPasses ms → lists_pass test ms ≡ true
      lists no_members h = refl
      lists (member k d ms) h = both (reports_pass test d) (lists_pass test ms) h.0.1 (lists ms h.1)

      language_accepted : (l : LanguageValue) → IsSound (length rows) l → language_passes test (language_data rows l) ≡ true
      language_accepted l h =
          let ms : Members = named_data rows (reports_data rows) l.children no_members in
          let all : AllMembers ChildPasses ms = all_named_each ChildPasses rows (reports_data rows) l.children no_members (children_accepted l.children h.children) tt in
          both (reports_pass test (reports_data rows l.reports)) (test (object ms) && lists_pass test ms) (reports_accepted l.reports h.reports)
          (both (test (object ms)) (lists_pass test ms) (accepts ms (all_mono ChildPasses (λ k d. IsNamed k) ms (λ k d x. x.0) all)) (lists ms all))

      abbrev TopPasses : List ℕ → Data → Type 0
      TopPasses k d = TopName k × ((bytes_eq k (codes "Total") || language_passes test d) ≡ true)

      entries_accepted : (es : List (ℕ × LanguageValue)) → LanguagesAreSound (length rows) es → AllByRecursion (λ e. TopPasses (name_in rows e.0) (language_data rows e.1)) es
      entries_accepted [] h = tt
      entries_accepted (e ∷ es) h = (
        (
          inr (record { language = e.0; within = h.0; name = refl }),
          right_true (bytes_eq (name_in rows e.0) (codes "Total"))
              (language_passes test (language_data rows e.1)) (language_accepted e.1 h.1.0),
        ),
        entries_accepted es h.1.1,
      )

      total_passes : (d : Data) → TopPasses (codes "Total") d
      total_passes d = (inl refl, refl)

      abbrev pub top : List (ℕ × LanguageValue) → Members
      top es = put (codes "Total") (language_data rows (total_of es)) (named_data rows (language_data rows) es no_members)

      top_accepted : (es : List (ℕ × LanguageValue)) → LanguagesAreSound (length rows) es → AllMembers TopPasses (top es)
      top_accepted es h =
          all_put TopPasses (codes "Total") (language_data rows (total_of es)) (named_data rows (language_data rows) es no_members) (total_passes (language_data rows (total_of es)))
          (all_named_each TopPasses rows (language_data rows) es no_members (entries_accepted es h) tt)

      all_languages : (ms : Members) → AllMembers TopPasses ms → languages_pass test ms ≡ true
      all_languages no_members h = refl
      all_languages (member k d ms) h = both (bytes_eq k (codes "Total") || language_passes test d) (languages_pass test ms) h.0.1 (all_languages ms h.1)

    known_at_top : (k : List ℕ) → TopName k → (bytes_eq k (codes "Total") || is_some (language_named rows k)) ≡ true
    known_at_top k (inl total) = ap (λ t. bytes_eq t (codes "Total") || is_some (language_named rows t)) total
    known_at_top k (inr n) = right_true (bytes_eq k (codes "Total")) (is_some (language_named rows k)) (ap is_some (found k n))

    pub document_known : (es : List (ℕ × LanguageValue)) → LanguagesAreSound (length rows) es → all_known rows (document rows es) ≡ true
    unfolding all_known document
    document_known es h =
        let test : Data → Bool = passes rows Known in
        let ms : Members = put (codes "Total") (language_data rows (total_of es)) (named_data rows (language_data rows) es no_members) in
        let all : AllMembers (TopPasses test named_known) ms = top_accepted test named_known es h in
        both (all_names (λ k. bytes_eq k (codes "Total") || is_some (language_named rows k)) ms) (languages_pass test ms)
        (all_pass (λ k. bytes_eq k (codes "Total") || is_some (language_named rows k)) ms
        (all_mono (TopPasses test named_known) (λ k d. (bytes_eq k (codes "Total") || is_some (language_named rows k)) ≡ true) ms (λ k d x. known_at_top k x.0) all))
        (all_languages test named_known ms all)

    pub document_once : (es : List (ℕ × LanguageValue)) → LanguagesAreSound (length rows) es → all_once rows (document rows es) ≡ true
    unfolding all_once document
    document_once es h =
        let test : Data → Bool = passes rows Once in
        let ms : Members = put (codes "Total") (language_data rows (total_of es)) (named_data rows (language_data rows) es no_members) in
        let all : AllMembers (TopPasses test named_once) ms = top_accepted test named_once es h in
        both (names_once rows (object ms)) (languages_pass test ms)
        (top_once ms (all_mono (TopPasses test named_once) (λ k d. TopName k) ms (λ k d x. x.0) all))
        (all_languages test named_once ms all)
