-- Lists of references as the definitions see them.
use Rattle.std.specs.Prelude.{ℕ, List, map}
use Rattle.std.specs.Borrow.{Bor}
use Rattle.tokei_languages.specs.Seen.{language_of}
use Rattle.tokei_languages.specs.Values.{LanguageValue}
use Rattle.tokei_languages.specs.declared.language.Language.{Language}
pub use Rattle.tokei_print.specs.ListedReports.{reports_in}

-- each language under its number
abbrev pub languages_in : List (ℕ × Bor Language) → List (ℕ × LanguageValue)
languages_in es = map (λ e. (e.0, language_of e.1.now)) es
