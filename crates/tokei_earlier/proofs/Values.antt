-- What becomes of a value, by the tests of it.
use Rattle.std.proofs.Common.{◌≡◌, ℕ, Bool, not, List, Result, Ok, Err, if◌then◌else◌, ap, ◌∙◌}
use Rattle.serde_json.specs.Data.{Data}
use Rattle.tokei_earlier.specs.Outcome.{outcome_of_value}
use Rattle.tokei_earlier.specs.Reading.{languages_in}
use Rattle.tokei_earlier.specs.declared.error.InputError.{InputError}
use Rattle.tokei_earlier.specs.declared.error.InputError.TheVariants.{Layout, NamedTwice, UnknownLanguage}
use Rattle.tokei_json.specs.LanguageMaps.{all_known, all_once}
use Rattle.tokei_json.specs.Layout.{has_layout}
use Rattle.tokei_languages.specs.Values.{LanguageValue}
use Rattle.tokei_table.specs.Row.{Row}

-- the outcome, where the tests were answered so
abbrev pub tested : Result (List (ℕ × LanguageValue)) InputError → Bool → Bool → Bool → Result (List (ℕ × LanguageValue)) InputError
tested read layout known once =
    if not layout then Err Layout
    else (if not known then Err UnknownLanguage
    else (if not once then Err NamedTwice
    else read))

pub by_tests : (rows : List Row) (value : Data) {layout known once : Bool} → has_layout value ≡ layout → all_known rows value ≡ known → all_once rows value ≡ once
    → outcome_of_value rows value ≡ tested (Ok (languages_in rows value)) layout known once
unfolding outcome_of_value
by_tests rows value {layout} {known} {once} e f g =
    let read = Ok (languages_in rows value) in
    ap (λ b. tested read b (all_known rows value) (all_once rows value)) e
    ∙ ap (λ b. tested read layout b (all_once rows value)) f
    ∙ ap (λ b. tested read layout known b) g
