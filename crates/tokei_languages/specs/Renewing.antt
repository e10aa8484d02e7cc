-- Counts anew: the sums of the reports' own counts.
use Rattle.std.specs.Prelude.{ℕ, List, [], ◌∷◌, map, ⊤}
use Rattle.tokei_stats.specs.Overflow.{CountsFit}
use Rattle.tokei_stats.specs.Statistics.{Counts, no_lines, plus, own}
use Rattle.tokei_languages.specs.Values.{ReportValue, LanguageValue}

-- the reports' own counts, added up
abbrev pub own_sum : List ReportValue → Counts
own_sum [] = no_lines
own_sum (r ∷ rs) = plus (own r.stats) (own_sum rs)

-- a language whose counts are the sum of its reports' own counts
abbrev pub renewed : LanguageValue → LanguageValue
renewed language = record language { counts = own_sum language.reports }

-- each language renewed
abbrev pub renewed_languages : List (ℕ × LanguageValue) → List (ℕ × LanguageValue)
renewed_languages es = map (λ e. (e.0, renewed e.1)) es

-- each language's sums are at most the greatest `usize`
abbrev pub RenewalFits : List (ℕ × LanguageValue) → Type 0
RenewalFits [] = ⊤
RenewalFits (e ∷ es) = CountsFit (own_sum e.1.reports) × RenewalFits es
