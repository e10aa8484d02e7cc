-- The law of documents: what is written is read back.
use Rattle.std.specs.Prelude.{◌≡◌, ℕ, List, length, Ok}
use Rattle.tokei_languages.specs.Values.{LanguageValue}
use Rattle.tokei_table.specs.Row.{Row}
use Rattle.tokei_table.specs.WellFormed.{IsWellFormed}
use Rattle.tokei_json.specs.Document.{document}
use Rattle.tokei_json_laws.specs.InOrder.{LanguagesAreInOrder}
use Rattle.tokei_json_laws.specs.Known.{LanguagesAreKnown}
use Rattle.tokei_earlier.specs.Outcome.{outcome_of_value}

-- the document of a table's languages, in its order, is read as these languages
abbrev pub DocumentsReadBack : Type 0
DocumentsReadBack = (rows : List Row) (es : List (ℕ × LanguageValue))
    → IsWellFormed rows → LanguagesAreKnown (length rows) es → LanguagesAreInOrder es
    → outcome_of_value rows (document rows es) ≡ Ok es
