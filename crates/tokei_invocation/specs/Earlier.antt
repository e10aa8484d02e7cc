-- The earlier results that a command line names.
use Rattle.std.specs.Prelude.{ℕ, List, [], Option, None, Some, bytes_eq, codes, if◌then◌else◌, ⊤, IfSome}
use Rattle.std.specs.Option.{option_or}
use Rattle.tokei_folders.specs.Tree.{Tree}
use Rattle.tokei_earlier.specs.Adding.{IsAdded}
use Rattle.tokei_languages.specs.declared.languages.Languages.{Languages}
use Rattle.tokei_languages.specs.Seen.{languages_of}
use Rattle.tokei_invocation.specs.Tables.{content_at}
use Rattle.tokei_table.specs.Row.{Row}

-- what a name means that is no file's: `stdin` what stands on standard input, and any other name
-- itself
abbrev pub unfiled : Option (List ℕ) → List ℕ → Option (List ℕ)
unfiled input name = if bytes_eq name (codes "stdin") then input else Some name

-- the bytes that a name means, where they are known: those of its file, where it can be read
abbrev pub bytes_named : Tree → Option (List ℕ) → List ℕ → Option (List ℕ)
bytes_named tree input name = option_or (content_at tree name) (unfiled input name)

-- the languages are those of the bytes, where these are known
abbrev pub AreRead : List Row → Option (List ℕ) → Languages → Type 0
AreRead rows bytes languages = IfSome bytes (IsAdded rows [] (languages_of languages))

-- the languages of earlier runs: none where no name is given, else those of the bytes that the name
-- means
abbrev pub AreEarlier : List Row → Tree → Option (List ℕ) → Option (List ℕ) → Option Languages
    → Type 0
AreEarlier rows tree input None None = ⊤
AreEarlier rows tree input None (Some languages) = ⊥
AreEarlier rows tree input (Some name) None = ⊥
AreEarlier rows tree input (Some name) (Some languages) =
    AreRead rows (bytes_named tree input name) languages
