-- When a language is empty.
use Rattle.std.proofs.Common.{◌≡◌, ℕ, List, [], ◌∷◌, Bool, true, false, IsTrue, ◌&&◌, length, refl, ap, arith}
use Rattle.std.proofs.lemmas.Bool.Decides.{nat_tests}
use Rattle.std.specs.Prelude.{◌==◌, ◌↔◌}
use Rattle.tokei_languages.specs.Values.{ReportValue, LanguageValue}
use Rattle.tokei_stats.specs.Statistics.{Counts, no_lines}
use Rattle.tokei_print.specs.Results.{is_empty_language}

nil_if_none : (cs : List (ℕ × List ReportValue)) → length cs ≡ 0 → cs ≡ []
nil_if_none [] h = refl
nil_if_none (c ∷ cs) h = absurd (omega arith)

tests_pass : (a b c d : ℕ) → a ≡ 0 → b ≡ 0 → c ≡ 0 → d ≡ 0 → ((a == 0) && ((b == 0) && ((c == 0) && (d == 0)))) ≡ true
tests_pass a b c d ea eb ec ed = rw (ea, eb, ec, ed) refl

passed : (a b c d : ℕ) → ((a == 0) && ((b == 0) && ((c == 0) && (d == 0)))) ≡ true → (a ≡ 0) × (b ≡ 0) × (c ≡ 0) × (d ≡ 0)
passed a b c d h = (grind (arith, nat_tests), grind (arith, nat_tests), grind (arith, nat_tests), grind (arith, nat_tests))

same_counts : (a b c : ℕ) → a ≡ 0 → b ≡ 0 → c ≡ 0 → (let n : Counts = record { blanks = a; code = b; comments = c } in n ≡ no_lines)
same_counts a b c ea eb ec = rw (ea, eb, ec) refl

zero_counts : (n : Counts) → n.blanks ≡ 0 → n.code ≡ 0 → n.comments ≡ 0 → n ≡ no_lines
zero_counts n b k m = same_counts n.blanks n.code n.comments b k m

either : (v : Bool) (P : Type 0) → (v ≡ true → P) → (v ≡ false → P) → P
either true P t f = t refl
either false P t f = f refl

decided : (r : Bool) (l : LanguageValue) → (IsTrue r ↔ ((l.counts ≡ no_lines) × (l.children ≡ []))) → (v : Bool) → v ≡ is_empty_language l → r ≡ v
decided true l h true e = refl
decided false l h false e = refl
decided true l h false e =
    let p = h.0 refl in
    let yes : is_empty_language l ≡ true =
    tests_pass _ _ _ _ (ap (λ (n : Counts). n.blanks) p.0) (ap (λ (n : Counts). n.code) p.0)
    (ap (λ (n : Counts). n.comments) p.0)
    (ap (λ (cs : List (ℕ × List ReportValue)). length cs) p.1) in
    cc
decided false l h true e =
    let z = passed l.counts.blanks l.counts.code l.counts.comments (length l.children) (cc) in
    let no : IsTrue false = h.1 (zero_counts l.counts z.0 z.1 z.2, nil_if_none l.children z.3) in
    let wrong : false ≡ true = no in
    cc

pub empty_language : (r : Bool) (l : LanguageValue) → (IsTrue r ↔ ((l.counts ≡ no_lines) × (l.children ≡ []))) → r ≡ is_empty_language l
empty_language r l h = decided r l h (is_empty_language l) refl
