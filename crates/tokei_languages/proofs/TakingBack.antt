-- Taking back what several lists grew by.
use Rattle.std.proofs.Common.{◌≡◌, ℕ, List, [], ◌∷◌, ◌++◌, Option, Vec, Global, length, map, take, refl, ap, ◌∙◌}
use Rattle.std.proofs.lemmas.List.{take-map, take_at}
use Rattle.tokei_stats.specs.declared.report.Report.{Report}
use Rattle.tokei_languages.specs.Seen.{report_of, reports_of}
use Rattle.tokei_languages.specs.Values.{ReportValue}
use Rattle.tokei_languages.specs.TakenBack.{first, all_taken_back}
use Rattle.tokei_languages.specs.Maps.{taken_back}

-- the last is taken back first
pub last_first : (es : List (ℕ × List ReportValue)) (bs : List (ℕ × Option ℕ)) (b : ℕ × Option ℕ)
    → all_taken_back es (bs ++ b ∷ []) ≡ all_taken_back (taken_back (first b.1) es b.0) bs
last_first es [] b = refl
last_first es (a ∷ bs) b = ap (λ fs. taken_back (first a.1) fs a.0) (last_first es bs b)

-- the first reports of a longer list
pub first_of : (v w more : Vec Report Global) (n : ℕ) → w.items ≡ v.items ++ more.items → length v.items ≡ n → take n (reports_of w) ≡ reports_of v
first_of v w more n h l = take-map report_of n w.items ∙ ap (λ us. map report_of (take n us)) h ∙ ap (map report_of) (take_at v.items more.items n l)
