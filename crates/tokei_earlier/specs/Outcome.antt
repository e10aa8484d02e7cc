-- What becomes of earlier results: their languages, or the first cause for which they are refused.
-- Out of memory comes beside it.
use Rattle.std.specs.Prelude.{ℕ, List, [], ◌∷◌, not, Option, None, Some, Result, Ok, Err, if◌then◌else◌}
use Rattle.std.specs.Str.{is_utf8}
use Rattle.serde_json.specs.Data.{Data}
use Rattle.serde_json.specs.Read.{read}
use Rattle.tokei_languages.specs.Values.{LanguageValue}
use Rattle.tokei_table.specs.Row.{Row}
use Rattle.tokei_json.specs.LanguageMaps.{all_known, all_once}
use Rattle.tokei_json.specs.Layout.{has_layout}
use Rattle.tokei_earlier.specs.Reading.{languages_in}
use Rattle.tokei_earlier.specs.declared.error.InputError.{InputError}
use Rattle.tokei_earlier.specs.declared.error.InputError.TheVariants.{Empty, NotJson, Layout, UnknownLanguage, NamedTwice}

-- of a JSON value
unfoldable pub outcome_of_value : List Row → Data → Result (List (ℕ × LanguageValue)) InputError
outcome_of_value rows value =
    if not (has_layout value) then Err Layout
    else (if not (all_known rows value) then Err UnknownLanguage
    else (if not (all_once rows value) then Err NamedTwice
    else Ok (languages_in rows value)))

-- of a text that may have no reading
abbrev pub outcome_of_reading : List Row → Option Data
    → Result (List (ℕ × LanguageValue)) InputError
outcome_of_reading rows None = Err NotJson
outcome_of_reading rows (Some d) = outcome_of_value rows d

-- of a text
abbrev pub outcome_of_text : List Row → List ℕ → Result (List (ℕ × LanguageValue)) InputError
outcome_of_text rows [] = Err Empty
outcome_of_text rows (c ∷ cs) = outcome_of_reading rows (read (c ∷ cs))

-- of bytes, which may be no text
unfoldable pub outcome_of_bytes : List Row → List ℕ → Result (List (ℕ × LanguageValue)) InputError
outcome_of_bytes rows bytes = if is_utf8 bytes then outcome_of_text rows bytes else Err NotJson
