-- Equality by `==` is equality of all members.
use Rattle.std.proofs.Common.{◌≡◌, ℕ, Bool, true, false, ◌==◌, ◌&&◌, List, [], ◌∷◌, map, refl, sym, ◌∙◌, ap, string_bytes, string_eq, eq-eqb}
use Rattle.std.proofs.lemmas.Bool.{eqb-true, false≢true}
use mathlib.Core.Bool.{beq}
use lib.Pointwise.{pointwise, bytes_decides}
use Rattle.std.specs.declared.alloc.Global.{Global}
use Rattle.std.specs.declared.vec.Vec.{Vec}
use Rattle.tokei_stats.specs.Statistics.{Counts}
use Rattle.tokei_stats.specs.declared.report.Report.{Report}
use Rattle.tokei_stats.proofs.Equality.{equal, alike_if_equal, equal_if_alike, both_true, first_of_both, second_of_both}
use Rattle.tokei_stats.proofs.SameMembers.{same_counts}
use Rattle.tokei_languages.specs.Seen.{report_of, reports_of, children_of, language_of, entries_of, languages_of}
use Rattle.tokei_languages.specs.Values.{ReportValue, LanguageValue}
use Rattle.tokei_languages.specs.declared.language.Language.{Language}
use Rattle.tokei_languages.specs.declared.languages.Languages.{Languages}

-- the test says whether two elements are seen alike
abbrev pub Tests : {X Y : Type 0} → (X → X → Bool) → (X → Y) → Type 0
Tests {X} same view = (a b : X) → (same a b ≡ true → view a ≡ view b) × (view a ≡ view b → same a b ≡ true)

lists_test : {X Y : Type 0} (same : X → X → Bool) (view : X → Y) → Tests same view → Tests (pointwise same) (map view)
lists_test same view t [] [] = (λ h. refl, λ h. refl)
lists_test same view t [] (y ∷ ys) = (λ h. absurd (false≢true h), λ h. cc)
lists_test same view t (x ∷ xs) [] = (λ h. absurd (false≢true h), λ h. cc)
lists_test same view t (x ∷ xs) (y ∷ ys) =
    let more = lists_test same view t xs ys in (
      λ h. ap (λ v. v ∷ map view xs) ((t x y).0 (first_of_both (same x y) (pointwise same xs ys) h))
          ∙ ap (λ vs. view y ∷ vs) (more.0 (second_of_both (same x y) (pointwise same xs ys) h)),
      λ h.
          let head : view x ≡ view y = cc in
          let tail : map view xs ≡ map view ys = cc in
          both_true (same x y) (pointwise same xs ys) ((t x y).1 head) (more.1 tail),
    )

-- entries of a map, by key and value
abbrev pub same_entry : {X : Type 0} → (X → X → Bool) → ℕ × X → ℕ × X → Bool
same_entry same p q = p.0 == q.0 && same p.1 q.1

entries_test : {X Y : Type 0} (same : X → X → Bool) (view : X → Y) → Tests same view → Tests {Y = ℕ × Y} (same_entry same) (λ e. (e.0, view e.1))
entries_test {Y = Y} same view t p q = (
  λ h. ap (λ k. (k, view p.1)) (eqb-true p.0 q.0 (first_of_both (p.0 == q.0) (same p.1 q.1) h))
      ∙ ap (λ v. (q.0, v)) ((t p.1 q.1).0 (second_of_both (p.0 == q.0) (same p.1 q.1) h)),
  λ h. both_true (p.0 == q.0) (same p.1 q.1) (eq-eqb p.0 q.0 (ap (λ (e : ℕ × Y). e.0) h)) ((t p.1 q.1).1 (ap (λ (e : ℕ × Y). e.1) h)),
)

abbrev pub same_report : Report → Report → Bool
same_report a b = equal a.stats b.stats && string_eq a.name b.name

reports_test : Tests same_report report_of
reports_test a b =
    let names = bytes_decides (string_bytes a.name) (string_bytes b.name) in (
      λ h. ap (λ s. record { name = string_bytes a.name; stats = s }) (alike_if_equal a.stats b.stats (first_of_both (equal a.stats b.stats) (string_eq a.name b.name) h))
          ∙ ap (λ n. record (report_of b) { name = n }) (names.0 (second_of_both (equal a.stats b.stats) (string_eq a.name b.name) h)),
      λ h. both_true (equal a.stats b.stats) (string_eq a.name b.name)
          (equal_if_alike a.stats b.stats (ap (λ (r : ReportValue). r.stats) h)) (names.1 (ap (λ (r : ReportValue). r.name) h)),
    )

pub bools_test : (a b : Bool) → (beq a b ≡ true → a ≡ b) × (a ≡ b → beq a b ≡ true)
bools_test true true = (λ h. refl, λ h. refl)
bools_test true false = (λ h. absurd (false≢true h), λ h. absurd (false≢true (sym h)))
bools_test false true = (λ h. absurd (false≢true h), λ h. absurd (false≢true h))
bools_test false false = (λ h. refl, λ h. refl)

abbrev pub same_reports : Vec Report Global → Vec Report Global → Bool
same_reports u v = pointwise same_report u.items v.items

vecs_test : Tests same_reports reports_of
vecs_test u v = lists_test same_report report_of reports_test u.items v.items

-- what `==` answers
abbrev pub same_language : Language → Language → Bool
same_language a b =
    a.blanks == b.blanks && (a.code == b.code && (a.comments == b.comments && (same_reports a.reports b.reports
    && (pointwise (same_entry same_reports) a.children.entries b.children.entries && (beq a.inaccurate b.inaccurate && true)))))

abbrev counts : Language → Counts
counts a = record { blanks = a.blanks; code = a.code; comments = a.comments }

abbrev value : Counts → List ReportValue → List (ℕ × List ReportValue) → Bool → LanguageValue
value n rs es x = record { counts = n; reports = rs; children = es; inaccurate = x }

same_value : (m n : Counts) (rs ss : List ReportValue) (es fs : List (ℕ × List ReportValue)) (x y : Bool) → m ≡ n → rs ≡ ss → es ≡ fs → x ≡ y
    → value m rs es x ≡ value n ss fs y
same_value m n rs ss es fs x y h i j k =
    ap (λ c. value c rs es x) h ∙ ap (λ c. value n c es x) i ∙ ap (λ c. value n ss c x) j ∙ ap (value n ss fs) k

children_test : Tests (pointwise (same_entry same_reports)) children_of
children_test = lists_test (same_entry same_reports) (λ e. (e.0, reports_of e.1)) (entries_test same_reports reports_of vecs_test)

alike_if_same : (a b : Language) → same_language a b ≡ true → language_of a ≡ language_of b
alike_if_same a b h =
    let but_blanks = second_of_both _ _ h in
    let but_code = second_of_both _ _ but_blanks in
    let but_comments = second_of_both _ _ but_code in
    let but_reports = second_of_both _ _ but_comments in
    let but_children = second_of_both _ _ but_reports in
    same_value (counts a) (counts b) (reports_of a.reports) (reports_of b.reports)
    (children_of a.children.entries) (children_of b.children.entries) a.inaccurate b.inaccurate
    (same_counts (counts a) (counts b) (eqb-true _ _ (first_of_both _ _ h)) (eqb-true _ _ (first_of_both _ _ but_blanks)) (eqb-true _ _ (first_of_both _ _ but_code)))
    ((vecs_test a.reports b.reports).0 (first_of_both _ _ but_comments))
    ((children_test a.children.entries b.children.entries).0 (first_of_both _ _ but_reports))
    ((bools_test a.inaccurate b.inaccurate).0 (first_of_both _ _ but_children))

same_if_alike : (a b : Language) → language_of a ≡ language_of b → same_language a b ≡ true
same_if_alike a b h =
    both_true _ _ (eq-eqb a.blanks b.blanks (ap (λ (v : LanguageValue). v.counts.blanks) h))
    (both_true _ _ (eq-eqb a.code b.code (ap (λ (v : LanguageValue). v.counts.code) h))
    (both_true _ _ (eq-eqb a.comments b.comments (ap (λ (v : LanguageValue). v.counts.comments) h))
    (both_true _ _ ((vecs_test a.reports b.reports).1 (ap (λ (v : LanguageValue). v.reports) h))
    (both_true _ _ ((children_test a.children.entries b.children.entries).1 (ap (λ (v : LanguageValue). v.children) h))
    (both_true _ _ ((bools_test a.inaccurate b.inaccurate).1 (ap (λ (v : LanguageValue). v.inaccurate) h)) refl)))))

pub language_test : Tests same_language language_of
language_test a b = (alike_if_same a b, same_if_alike a b)

abbrev pub same_languages : Languages → Languages → Bool
same_languages a b = pointwise (same_entry same_language) a.languages.entries b.languages.entries && true

all_test : Tests (pointwise (same_entry same_language)) entries_of
all_test = lists_test (same_entry same_language) (λ e. (e.0, language_of e.1)) (entries_test same_language language_of language_test)

pub languages_test : Tests same_languages languages_of
languages_test a b =
    let all = all_test a.languages.entries b.languages.entries in
    (λ h. all.0 (first_of_both _ _ h), λ h. both_true _ _ (all.1 h) refl)
