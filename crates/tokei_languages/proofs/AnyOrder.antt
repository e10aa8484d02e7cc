-- Files counted in another order.
use Rattle.std.proofs.Common.{◌≡◌, ℕ, ◌+◌, ◌==◌, Bool, true, false, cond, ◌||◌, List, [], ◌∷◌, ◌++◌, Option, None, Some, is_none, refl, sym, ◌∙◌, ap, arith}
use Rattle.std.specs.List.{sum_by, count_by, list_any}
use Rattle.std.specs.List.Sorted.{IsPermutation}
use Rattle.std.proofs.lemmas.List.Sums.{sum_by-cons, sum_by_push}
use Rattle.std.proofs.lemmas.List.Sorted.{sum_by-IsPermutation, list_any-IsPermutation}
use Rattle.std.specs.Ordering.{nat_cmp, match_ordering}
use Rattle.std.specs.declared.cmp.Ordering.{Ordering}
use Rattle.std.specs.declared.cmp.Ordering.TheVariants.{Less, Equal, Greater}
use Rattle.tokei_stats.specs.Statistics.{Counts, Statistics, Blobs, no_lines, plus, own, blobs, summary, summaries}
use Rattle.tokei_stats.specs.Statistics.Statistics.{node}
use Rattle.tokei_stats.specs.Statistics.Blobs.{none, blob}
use Rattle.tokei_stats.proofs.SameMembers.{same_counts}
use Rattle.tokei_languages.specs.AnyOrder.{with_file, with_files, passing_reports, DifferInOrderAlone}
use Rattle.tokei_languages.specs.Maps.{put_at}
use Rattle.tokei_languages.specs.Merging.{appended, blob_reports}
use Rattle.tokei_languages.specs.Renewing.{own_sum, renewed, renewed_languages}
use Rattle.tokei_languages.specs.Summaries.{reports_summary, children_summary, language_summary, languages_summary, any_inaccurate}
use Rattle.tokei_languages.specs.Values.{ReportValue, LanguageValue, empty_language}
use Rattle.tokei_languages.proofs.Measures.{measure, put_measured, merged_measured}

-- a number of each language that grows by the same for a file, whatever stood there
module _ (w : ℕ → LanguageValue → ℕ) (c : ℕ → Option ReportValue → ℕ)
    (grows : (k : ℕ) (o : Option ReportValue) (t : LanguageValue) → w k (with_file t o) ≡ w k t + c k o)
    (nothing : (k : ℕ) → w k empty_language ≡ 0) where
  files_measured : (es : List (ℕ × LanguageValue)) (fs : List (ℕ × Option ReportValue)) → measure w (with_files es fs) ≡ measure w es + sum_by (λ f. c f.0 f.1) fs
  files_measured es [] = omega arith
  files_measured es (f ∷ fs) =
      let first : w f.0 (with_file empty_language f.1) ≡ c f.0 f.1 = omega (arith, grows f.0 f.1 empty_language, nothing f.0) in
      let more = files_measured (put_at (λ s. with_file s f.1) (with_file empty_language f.1) es f.0) fs in
      let one = put_measured w (λ s. with_file s f.1) (with_file empty_language f.1) es f.0 (c f.0 f.1) (grows f.0 f.1) first in
      let all = sum_by-cons (λ (f : ℕ × Option ReportValue). c f.0 f.1) f fs in
      omega (arith, more, one, all)

  any_order : (es : List (ℕ × LanguageValue)) (fs gs : List (ℕ × Option ReportValue)) → IsPermutation fs gs
      → measure w (with_files es fs) ≡ measure w (with_files es gs)
  any_order es fs gs p =
      omega (arith, files_measured es fs, files_measured es gs, sum_by-IsPermutation (λ (f : ℕ × Option ReportValue). c f.0 f.1) fs gs p)

-- one of the three counts
module _ (col : Counts → ℕ) (zero : col no_lines ≡ 0) (adds : (a b : Counts) → col (plus a b) ≡ col a + col b) where
  own_pushed : (rs : List ReportValue) (r : ReportValue) → col (own_sum (rs ++ r ∷ [])) ≡ col (own_sum rs) + col (own r.stats)
  own_pushed [] r = omega (arith, adds (own r.stats) no_lines, zero)
  own_pushed (q ∷ rs) r =
      omega (arith, adds (own q.stats) (own_sum (rs ++ r ∷ [])), adds (own q.stats) (own_sum rs), own_pushed rs r)

  reports_appended : (rs ss : List ReportValue) → col (reports_summary (rs ++ ss)) ≡ col (reports_summary rs) + col (reports_summary ss)
  reports_appended [] ss = omega (arith, zero)
  reports_appended (r ∷ rs) ss =
      omega (arith, adds (summary r.stats) (reports_summary (rs ++ ss)), adds (summary r.stats) (reports_summary rs), reports_appended rs ss)

  children_measured : (es : List (ℕ × List ReportValue)) → col (children_summary es) ≡ measure (λ k rs. col (reports_summary rs)) es
  children_measured [] = zero
  children_measured (e ∷ es) = adds (reports_summary e.1) (children_summary es) ∙ ap (λ n. col (reports_summary e.1) + n) (children_measured es)

  children_appended : (es fs : List (ℕ × List ReportValue)) → col (children_summary (appended es fs)) ≡ col (children_summary es) + col (children_summary fs)
  children_appended es fs =
      let both = merged_measured (λ rs. col (reports_summary rs)) (λ rs more. rs ++ more) reports_appended es fs in
      omega (arith, children_measured (appended es fs), children_measured es, children_measured fs, both)

  blobs_summed : (name : List ℕ) (bs : Blobs) → col (children_summary (blob_reports name bs)) ≡ col (summaries bs)
  blobs_summed name none = refl
  blobs_summed name (blob k s rest) =
      let r : ReportValue = record { name = name; stats = s } in
      omega (
        arith,
        adds (reports_summary (r ∷ [])) (children_summary (blob_reports name rest)),
        adds (summary s) no_lines,
        zero,
        adds (summary s) (summaries rest),
        blobs_summed name rest,
      )

  summary_split : (s : Statistics) → col (summary s) ≡ col (own s) + col (summaries (blobs s))
  summary_split (node n bs) = adds n (summaries bs)

  abbrev weight : ℕ → LanguageValue → ℕ
  weight k s = col (language_summary (renewed s))

  abbrev added : ℕ → Option ReportValue → ℕ
  added k None = 0
  added k (Some r) = col (summary r.stats)

  grows : (k : ℕ) (o : Option ReportValue) (t : LanguageValue) → weight k (with_file t o) ≡ weight k t + added k o
  grows k None t = omega arith
  grows k (Some r) t =
      let more = blob_reports r.name (blobs r.stats) in
      omega (
        arith,
        adds (own_sum (t.reports ++ r ∷ [])) (children_summary (appended t.children more)),
        adds (own_sum t.reports) (children_summary t.children),
        own_pushed t.reports r,
        children_appended t.children more,
        blobs_summed r.name (blobs r.stats),
        summary_split r.stats,
      )

  nothing : (k : ℕ) → weight k empty_language ≡ 0
  nothing k = omega (arith, adds no_lines no_lines, zero)

  totals_measured : (es : List (ℕ × LanguageValue)) → col (languages_summary (renewed_languages es)) ≡ measure weight es
  totals_measured [] = zero
  totals_measured (e ∷ es) =
      adds (language_summary (renewed e.1)) (languages_summary (renewed_languages es)) ∙ ap (λ n. weight e.0 e.1 + n) (totals_measured es)

  column_alike : (es : List (ℕ × LanguageValue)) (fs gs : List (ℕ × Option ReportValue)) → IsPermutation fs gs
      → col (languages_summary (renewed_languages (with_files es fs))) ≡ col (languages_summary (renewed_languages (with_files es gs)))
  column_alike es fs gs p =
      totals_measured (with_files es fs) ∙ any_order weight added grows nothing es fs gs p ∙ sym (totals_measured (with_files es gs))

totals_alike : (es : List (ℕ × LanguageValue)) (fs gs : List (ℕ × Option ReportValue)) → IsPermutation fs gs
    → languages_summary (renewed_languages (with_files es fs)) ≡ languages_summary (renewed_languages (with_files es gs))
totals_alike es fs gs p =
    same_counts _ _ (column_alike (λ n. n.blanks) refl (λ a b. refl) es fs gs p) (column_alike (λ n. n.code) refl (λ a b. refl) es fs gs p)
    (column_alike (λ n. n.comments) refl (λ a b. refl) es fs gs p)

-- marks
or_last : (p q r : Bool) → (p || (q || r)) ≡ ((q || r) || p)
or_last true true r = refl
or_last true false true = refl
or_last true false false = refl
or_last false true r = refl
or_last false false true = refl
or_last false false false = refl

or_middle : (p q r : Bool) → ((p || q) || r) ≡ ((p || r) || q)
or_middle true q r = refl
or_middle false true true = refl
or_middle false true false = refl
or_middle false false true = refl
or_middle false false false = refl

or_inner : (p q r : Bool) → (p || (q || r)) ≡ ((p || q) || r)
or_inner true q r = refl
or_inner false q r = refl

or_nothing : (p : Bool) → p ≡ (p || false)
or_nothing true = refl
or_nothing false = refl

or_all : (p : Bool) → true ≡ (p || true)
or_all true = refl
or_all false = refl

mark_grows : (o : Option ReportValue) (t : LanguageValue) → (with_file t o).inaccurate ≡ (t.inaccurate || is_none o)
mark_grows None t = or_all t.inaccurate
mark_grows (Some r) t = or_nothing t.inaccurate

put_marks_by : (x : Option ReportValue) (o : Ordering) (k : ℕ) (e : ℕ × LanguageValue) (es : List (ℕ × LanguageValue))
    → any_inaccurate (put_at (λ s. with_file s x) (with_file empty_language x) es k) ≡ (any_inaccurate es || is_none x)
    → any_inaccurate (match_ordering o ((k, with_file empty_language x) ∷ e ∷ es) ((e.0, with_file e.1 x) ∷ es) (e ∷ put_at (λ s. with_file s x) (with_file empty_language x) es k))
    ≡ (any_inaccurate (e ∷ es) || is_none x)
put_marks_by x Less k e es more =
    ap (λ b. b || (e.1.inaccurate || any_inaccurate es)) (mark_grows x empty_language) ∙ or_last (is_none x) e.1.inaccurate (any_inaccurate es)
put_marks_by x Equal k e es more =
    ap (λ b. b || any_inaccurate es) (mark_grows x e.1) ∙ or_middle e.1.inaccurate (is_none x) (any_inaccurate es)
put_marks_by x Greater k e es more =
    ap (λ b. e.1.inaccurate || b) more ∙ or_inner e.1.inaccurate (any_inaccurate es) (is_none x)

put_marks : (x : Option ReportValue) (es : List (ℕ × LanguageValue)) (k : ℕ)
    → any_inaccurate (put_at (λ s. with_file s x) (with_file empty_language x) es k) ≡ (any_inaccurate es || is_none x)
put_marks x [] k = ap (λ b. b || false) (mark_grows x empty_language) ∙ sym (or_nothing (is_none x))
put_marks x (e ∷ es) k = put_marks_by x (nat_cmp k e.0) k e es (put_marks x es k)

abbrev is_unread : ℕ × Option ReportValue → Bool
is_unread f = is_none f.1

files_marked : (es : List (ℕ × LanguageValue)) (fs : List (ℕ × Option ReportValue))
    → any_inaccurate (with_files es fs) ≡ (any_inaccurate es || list_any is_unread fs)
files_marked es [] = or_nothing (any_inaccurate es)
files_marked es (f ∷ fs) =
    files_marked (put_at (λ s. with_file s f.1) (with_file empty_language f.1) es f.0) fs
    ∙ ap (λ b. b || list_any is_unread fs) (put_marks f.1 es f.0)
    ∙ sym (or_inner (any_inaccurate es) (is_none f.1) (list_any is_unread fs))

marks_alike : (es : List (ℕ × LanguageValue)) (fs gs : List (ℕ × Option ReportValue)) → IsPermutation fs gs
    → any_inaccurate (with_files es fs) ≡ any_inaccurate (with_files es gs)
marks_alike es fs gs p =
    files_marked es fs ∙ ap (λ b. any_inaccurate es || b) (list_any-IsPermutation is_unread fs gs p) ∙ sym (files_marked es gs)

-- the reports of a language that pass a test
module _ (k : ℕ) (test : ReportValue → Bool) where
  abbrev passing : ℕ → LanguageValue → ℕ
  passing j s = cond (k == j) (count_by test s.reports) 0

  abbrev passes : ℕ → Option ReportValue → ℕ
  passes j None = 0
  passes j (Some r) = cond (k == j) (cond (test r) 1 0) 0

  passing_by : (b : Bool) (m n c : ℕ) → m ≡ n + c → cond b m 0 ≡ cond b n 0 + cond b c 0
  passing_by true m n c h = h
  passing_by false m n c h = refl

  passing_grows : (j : ℕ) (o : Option ReportValue) (t : LanguageValue) → passing j (with_file t o) ≡ passing j t + passes j o
  passing_grows j None t = omega arith
  passing_grows j (Some r) t =
      passing_by (k == j) (count_by test (t.reports ++ r ∷ [])) (count_by test t.reports) (cond (test r) 1 0)
      (sum_by_push (λ (x : ReportValue). cond (test x) 1 0) t.reports r)

  none_by : (b : Bool) → cond {A = ℕ} b 0 0 ≡ 0
  none_by true = refl
  none_by false = refl

  passing_measured : (es : List (ℕ × LanguageValue)) → passing_reports k test es ≡ measure passing es
  passing_measured [] = refl
  passing_measured (e ∷ es) = ap (λ n. passing e.0 e.1 + n) (passing_measured es)

  passing_alike : (es : List (ℕ × LanguageValue)) (fs gs : List (ℕ × Option ReportValue)) → IsPermutation fs gs
      → passing_reports k test (with_files es fs) ≡ passing_reports k test (with_files es gs)
  passing_alike es fs gs p =
      passing_measured (with_files es fs) ∙ any_order passing passes passing_grows (λ j. none_by (k == j)) es fs gs p ∙ sym (passing_measured (with_files es gs))

pub files_alike : (es : List (ℕ × LanguageValue)) (fs gs : List (ℕ × Option ReportValue)) → IsPermutation fs gs
    → DifferInOrderAlone (with_files es fs) (with_files es gs)
files_alike es fs gs p = record {
  totals = totals_alike es fs gs p;
  marks = marks_alike es fs gs p;
  reports = λ k test. passing_alike k test es fs gs p;
}
