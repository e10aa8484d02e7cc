-- The languages of earlier runs, to which a run adds its own.
use Rattle.std.specs.Prelude.{ℕ, List, [], Option, None, Some}
use Rattle.tokei_languages.specs.declared.languages.Languages.{Languages}
use Rattle.tokei_languages.specs.Seen.{languages_of}
use Rattle.tokei_languages.specs.Values.{LanguageValue}

-- the languages of earlier runs, none where there are none
abbrev pub earlier_of : Option Languages → List (ℕ × LanguageValue)
earlier_of None = []
earlier_of (Some languages) = languages_of languages
