-- The words of formats.
use Rattle.std.specs.Prelude.{ℕ, List, [], ◌∷◌, ◌||◌, Result, Ok, Err, codes, bytes_eq, if◌then◌else◌}
use Rattle.tokei_earlier.specs.declared.format.Format.{Format}
use Rattle.tokei_earlier.specs.declared.format.Format.TheVariants.{Json}
use Rattle.tokei_earlier.specs.declared.format.FormatError.{FormatError}
use Rattle.tokei_earlier.specs.declared.format.FormatError.TheVariants.{NotBuilt, Unknown}

-- the words of formats that can be read
abbrev pub supported_words : List (List ℕ)
supported_words = codes "json" ∷ []

-- the words of formats that are known and can't be read
abbrev pub unsupported_words : List (List ℕ)
unsupported_words = codes "cbor" ∷ codes "yaml" ∷ []

-- all words of formats, in alphabetical order
abbrev pub all_words : List (List ℕ)
all_words = codes "cbor" ∷ codes "json" ∷ codes "yaml" ∷ []

-- the format of a word
abbrev pub format_of_word : List ℕ → Result Format FormatError
format_of_word word =
    if bytes_eq word (codes "json") then Ok Json
    else (if bytes_eq word (codes "cbor") || bytes_eq word (codes "yaml") then Err NotBuilt
    else Err Unknown)
