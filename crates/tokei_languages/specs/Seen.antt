-- The code's values as the definitions see them.
use Rattle.std.specs.Prelude.{ℕ, List, map}
use Rattle.std.specs.declared.alloc.Global.{Global}
pub use Rattle.tokei_stats.specs.Reports.{report_of, reports_of, children_of}
use Rattle.tokei_languages.specs.Values.{LanguageValue}
use Rattle.tokei_languages.specs.declared.language.Language.{Language}
use Rattle.tokei_languages.specs.declared.languages.Languages.{Languages}

-- a language: its counts, its reports, those of its children, and whether it is inaccurate
abbrev pub language_of : Language → LanguageValue
language_of language = record {
  counts = record { blanks = language.blanks; code = language.code; comments = language.comments };
  reports = reports_of language.reports;
  children = children_of language.children.entries;
  inaccurate = language.inaccurate;
}

-- each language under its number
abbrev pub entries_of : List (ℕ × Language) → List (ℕ × LanguageValue)
entries_of es = map (λ e. (e.0, language_of e.1)) es

-- the languages by their numbers
abbrev pub languages_of : Languages → List (ℕ × LanguageValue)
languages_of languages = entries_of languages.languages.entries

-- what the languages grow with
abbrev pub allocator_of : Languages → Global
allocator_of languages = languages.alloc
