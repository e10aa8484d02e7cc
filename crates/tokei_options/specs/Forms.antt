-- The forms of a stream by their names.
use Rattle.std.specs.Prelude.{◌≡◌, ◌≢◌, ℕ, List, Result, codes, map, MatchResult}
use Rattle.std.specs.Char.{to_ascii_lowercase}
use Rattle.tokei_options.specs.declared.streaming.Streaming.{Streaming}
use Rattle.tokei_options.specs.declared.streaming.Streaming.TheVariants.{Simple, Json}
use Rattle.tokei_options.specs.declared.streaming.StreamingError.{StreamingError}

-- the word that names the form
abbrev pub form_name : Streaming → List ℕ
form_name Simple = codes "simple"
form_name Json = codes "json"

-- a text gives the form that it names in any ASCII case, and is refused where it names none
abbrev pub ParsesForm : List ℕ → Result Streaming StreamingError → Type 0
ParsesForm text r = MatchResult r
    (λ form. map to_ascii_lowercase text ≡ form_name form)
    (λ _. (form : Streaming) → map to_ascii_lowercase text ≢ form_name form)
