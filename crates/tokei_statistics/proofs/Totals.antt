-- What is added up over languages doesn't ask in which order they were merged.
use Rattle.std.proofs.Common.{◌≡◌, ℕ, ◌+◌, List, [], ◌∷◌, ◌++◌, Bool, true, false, ◌||◌, cond, refl, sym, ◌∙◌, ap, arith, sum_by, nat_lt}
use Rattle.std.proofs.lemmas.Bool.Decides.{nat_tests}
use Rattle.std.proofs.Math.Bool.{or_assoc, or_comm}
use Rattle.std.proofs.lemmas.List.Sorted.{sum_by-IsPermutation}
use Rattle.std.proofs.lemmas.List.Sums.{sum_by-cons}
use Rattle.std.specs.List.Sorted.{IsPermutation}
use Rattle.std.specs.Ordering.{nat_cmp, match_ordering}
use Rattle.std.specs.declared.cmp.Ordering.{Ordering}
use Rattle.std.specs.declared.cmp.Ordering.TheVariants.{Less, Equal, Greater}
use Rattle.tokei_languages.specs.Maps.{put_at, merged}
use Rattle.tokei_languages.specs.Merging.{merged_language, merged_languages}
use Rattle.tokei_languages.specs.Renewing.{own_sum, renewed, renewed_languages}
use Rattle.tokei_languages.specs.Summaries.{reports_summary, children_summary, language_summary, languages_summary, any_inaccurate}
use Rattle.tokei_languages.specs.Values.{ReportValue, LanguageValue}
use Rattle.tokei_stats.specs.Statistics.{Counts, no_lines, plus, own, summary}
use Rattle.tokei_walk.specs.declared.kept_file.KeptFile.{KeptFile}
use Rattle.tokei_folders.specs.Tree.{Tree}
use Rattle.tokei_files.specs.Files.{Counting}
use Rattle.tokei_statistics.specs.OrderLaws.{OrderKeepsTotals}
use Rattle.tokei_statistics.specs.Runs.{languages_of_file, languages_of_run}

-- a number of each value, added up over entries, where joining values adds them
module _ {S : Type 0} (join : S → S → S) (m : S → ℕ) (adds : (s t : S) → m (join s t) ≡ m s + m t) where
  abbrev over : List (ℕ × S) → ℕ
  over [] = 0
  over (e ∷ es) = m e.1 + over es

  put_by : (o : Ordering) (s : S) (e : ℕ × S) (es more : List (ℕ × S)) (k : ℕ) → over more ≡ over es + m s
      → over (match_ordering o ((k, s) ∷ e ∷ es) ((e.0, join e.1 s) ∷ es) (e ∷ more)) ≡ over (e ∷ es) + m s
  put_by Less s e es more k h = omega arith
  put_by Equal s e es more k h = let one = adds e.1 s in omega arith
  put_by Greater s e es more k h = omega arith

  over_put : (s : S) (es : List (ℕ × S)) (k : ℕ) → over (put_at (λ x. join x s) s es k) ≡ over es + m s
  over_put s [] k = omega arith
  over_put s (e ∷ es) k = put_by (nat_cmp k e.0) s e es (put_at (λ x. join x s) s es k) k (over_put s es k)

  over_merged : (a b : List (ℕ × S)) → over (merged join a b) ≡ over a + over b
  over_merged a [] = omega arith
  over_merged a (e ∷ es) =
      let rest = over_merged (put_at (λ x. join x e.1) e.1 a e.0) es in
      let one = over_put e.1 a e.0 in omega arith

-- a column of the counts
pub record IsColumn (column : Counts → ℕ) : Type 0 where
  pub none : column no_lines ≡ 0
  pub adds : (a b : Counts) → column (plus a b) ≡ column a + column b

module _ (column : Counts → ℕ) (is : IsColumn column) where
  own_sum-append : (a b : List ReportValue) → column (own_sum (a ++ b)) ≡ column (own_sum a) + column (own_sum b)
  own_sum-append [] b = let none = is.none in omega arith
  own_sum-append (r ∷ a) b =
      let rest = own_sum-append a b in
      let one = is.adds (own r.stats) (own_sum (a ++ b)) in
      let other = is.adds (own r.stats) (own_sum a) in omega arith

  reports_summary-append : (a b : List ReportValue) → column (reports_summary (a ++ b)) ≡ column (reports_summary a) + column (reports_summary b)
  reports_summary-append [] b = let none = is.none in omega arith
  reports_summary-append (r ∷ a) b =
      let rest = reports_summary-append a b in
      let one = is.adds (summary r.stats) (reports_summary (a ++ b)) in
      let other = is.adds (summary r.stats) (reports_summary a) in omega arith

  abbrev of_reports : List ReportValue → ℕ
  of_reports rs = column (reports_summary rs)

  abbrev of_children : List (ℕ × List ReportValue) → ℕ
  of_children es = over (λ (a b : List ReportValue). a ++ b) of_reports reports_summary-append es

  children_over : (es : List (ℕ × List ReportValue)) → column (children_summary es) ≡ of_children es
  children_over [] = is.none
  children_over (e ∷ es) = is.adds (reports_summary e.1) (children_summary es) ∙ ap (λ n. column (reports_summary e.1) + n) (children_over es)

  -- a language's own counts anew, and those of the texts inside
  abbrev of_language : LanguageValue → ℕ
  of_language s = column (own_sum s.reports) + of_children s.children

  of_language-adds : (s t : LanguageValue) → of_language (merged_language s t) ≡ of_language s + of_language t
  of_language-adds s t =
      let reports = own_sum-append s.reports t.reports in
      let children = over_merged (λ (a b : List ReportValue). a ++ b) of_reports reports_summary-append s.children t.children in
      omega arith

  abbrev of_languages : List (ℕ × LanguageValue) → ℕ
  of_languages es = over merged_language of_language of_language-adds es

  languages_over : (es : List (ℕ × LanguageValue)) → column (languages_summary (renewed_languages es)) ≡ of_languages es
  languages_over [] = is.none
  languages_over (e ∷ es) =
      let rest = languages_over es in
      let one = is.adds (language_summary (renewed e.1)) (languages_summary (renewed_languages es)) in
      let two = is.adds (own_sum e.1.reports) (children_summary e.1.children) in
      let inner = children_over e.1.children in omega arith

  run_over : (c : Counting) (t : Tree) (ks : List KeptFile) → of_languages (languages_of_run c t ks) ≡ sum_by (λ k. of_languages (languages_of_file c t k)) ks
  run_over c t [] = refl
  run_over c t (k ∷ ks) =
      let rest = run_over c t ks in
      let one = over_merged merged_language of_language of_language-adds (languages_of_file c t k) (languages_of_run c t ks) in
      let own = sum_by-cons (λ (j : KeptFile). of_languages (languages_of_file c t j)) k ks in omega arith

  same_column : (c : Counting) (t : Tree) (old : List (ℕ × LanguageValue)) (xs ys : List KeptFile) → IsPermutation xs ys
      → column (languages_summary
      (renewed_languages (merged_languages old (languages_of_run c t xs))))
      ≡ column (languages_summary
      (renewed_languages (merged_languages old (languages_of_run c t ys))))
  same_column c t old xs ys p =
      let first = languages_over (merged_languages old (languages_of_run c t xs)) in
      let second = languages_over (merged_languages old (languages_of_run c t ys)) in
      let left = over_merged merged_language of_language of_language-adds old (languages_of_run c t xs) in
      let right = over_merged merged_language of_language of_language-adds old (languages_of_run c t ys) in
      let a = run_over c t xs in
      let b = run_over c t ys in
      let same = sum_by-IsPermutation (λ (j : KeptFile). of_languages (languages_of_file c t j)) xs ys p in
      omega arith

-- marks

swapped : (a b c : Bool) → ((a || b) || c) ≡ ((a || c) || b)
swapped true b c = refl
swapped false b c = or_comm b c

mark_by : (o : Ordering) (s : LanguageValue) (e : ℕ × LanguageValue) (es more : List (ℕ × LanguageValue)) (k : ℕ) → any_inaccurate more ≡ (any_inaccurate es || s.inaccurate)
    → any_inaccurate (match_ordering o ((k, s) ∷ e ∷ es) ((e.0, merged_language e.1 s) ∷ es) (e ∷ more)) ≡ (any_inaccurate (e ∷ es) || s.inaccurate)
mark_by Less s e es more k h = or_comm s.inaccurate (e.1.inaccurate || any_inaccurate es)
mark_by Equal s e es more k h = swapped e.1.inaccurate s.inaccurate (any_inaccurate es)
mark_by Greater s e es more k h = ap (λ b. e.1.inaccurate || b) h ∙ sym (or_assoc e.1.inaccurate (any_inaccurate es) s.inaccurate)

marks_put : (s : LanguageValue) (es : List (ℕ × LanguageValue)) (k : ℕ) → any_inaccurate (put_at (λ x. merged_language x s) s es k) ≡ (any_inaccurate es || s.inaccurate)
marks_put s [] k = or_comm s.inaccurate false
marks_put s (e ∷ es) k = mark_by (nat_cmp k e.0) s e es (put_at (λ x. merged_language x s) s es k) k (marks_put s es k)

marks_merged : (a b : List (ℕ × LanguageValue)) → any_inaccurate (merged_languages a b) ≡ (any_inaccurate a || any_inaccurate b)
marks_merged a [] = or_comm false (any_inaccurate a)
marks_merged a (e ∷ es) =
    marks_merged (put_at (λ x. merged_language x e.1) e.1 a e.0) es
    ∙ ap (λ b. b || any_inaccurate es) (marks_put e.1 a e.0)
    ∙ or_assoc (any_inaccurate a) e.1.inaccurate (any_inaccurate es)

marks_renewed : (es : List (ℕ × LanguageValue)) → any_inaccurate (renewed_languages es) ≡ any_inaccurate es
marks_renewed [] = refl
marks_renewed (e ∷ es) = ap (λ b. e.1.inaccurate || b) (marks_renewed es)

abbrev one_if : Bool → ℕ
one_if b = cond b 1 0

some_by : (b : Bool) (n : ℕ) → (b || nat_lt 0 n) ≡ nat_lt 0 (one_if b + n)
some_by true n = grind (arith, nat_tests)
some_by false n = ap (λ m. nat_lt 0 m) (omega arith)

module _ (c : Counting) (t : Tree) where
  abbrev is_marked : KeptFile → Bool
  is_marked k = any_inaccurate (languages_of_file c t k)

  run_marks : (ks : List KeptFile) → any_inaccurate (languages_of_run c t ks) ≡ nat_lt 0 (sum_by (λ k. one_if (is_marked k)) ks)
  run_marks [] = refl
  run_marks (k ∷ ks) =
      marks_merged (languages_of_file c t k) (languages_of_run c t ks)
      ∙ ap (λ b. is_marked k || b) (run_marks ks)
      ∙ some_by (is_marked k) (sum_by (λ k. one_if (is_marked k)) ks)
      ∙ ap (λ n. nat_lt 0 n) (sym (sum_by-cons (λ (j : KeptFile). one_if (is_marked j)) k ks))

  same_marks : (old : List (ℕ × LanguageValue)) (xs ys : List KeptFile) → IsPermutation xs ys
      → any_inaccurate (renewed_languages (merged_languages old (languages_of_run c t xs))) ≡ any_inaccurate (renewed_languages (merged_languages old (languages_of_run c t ys)))
  same_marks old xs ys p =
      let of_run : (ks : List KeptFile) → any_inaccurate
      (renewed_languages (merged_languages old (languages_of_run c t ks))) ≡
      (any_inaccurate old || nat_lt 0 (sum_by (λ (k : KeptFile). one_if (is_marked k)) ks)) =
      λ ks. marks_renewed (merged_languages old (languages_of_run c t ks)) ∙ marks_merged old (languages_of_run c t ks) ∙ ap (λ b. any_inaccurate old || b) (run_marks ks) in
      of_run xs ∙ ap (λ n. any_inaccurate old || nat_lt 0 n) (sym (sum_by-IsPermutation (λ (k : KeptFile). one_if (is_marked k)) xs ys p)) ∙ sym (of_run ys)

blanks_add : IsColumn (λ n. n.blanks)
blanks_add = record { none = refl; adds = λ a b. refl }

code_adds : IsColumn (λ n. n.code)
code_adds = record { none = refl; adds = λ a b. refl }

comments_add : IsColumn (λ n. n.comments)
comments_add = record { none = refl; adds = λ a b. refl }

-- the totals of a run don't ask in which order its files were counted
pub order_keeps_totals : OrderKeepsTotals
order_keeps_totals c t old xs ys p = record {
  counts = λ i. record {
    blanks = same_column (λ n. n.blanks) blanks_add c t old xs ys p i;
    code = same_column (λ n. n.code) code_adds c t old xs ys p i;
    comments = same_column (λ n. n.comments) comments_add c t old xs ys p i;
  };
  inaccurate = same_marks c t old xs ys p;
}
