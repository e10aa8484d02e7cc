-- What is told of a refused table: which language goes wrong, and by what.
use Rattle.std.specs.Prelude.{◌≡◌, ℕ, Bool, true, false, List, [], codes, string_bytes, if◌then◌else◌}
use Rattle.std.specs.Prelude.{Option, Some, None, Result, Err, is_err}
use Rattle.std.specs.List.{Any}
use Rattle.serde_json.specs.Data.{Data}
use Rattle.serde_json.specs.Find.{get}
use Rattle.tokei_table_json.specs.Layout.{has_layout}
use Rattle.tokei_table_json.specs.Misfits.{has_unfit_language}
use Rattle.tokei_table_json.specs.Rows.{rows_at}
use Rattle.tokei_table_row.specs.Bytes.{holds}
use Rattle.tokei_table_row.specs.Row.{Row}
use Rattle.tokei_table_rules.specs.Fallbacks.{has_key}
use Rattle.tokei_table_rules.specs.Families.{family_of, needed_keys}
use Rattle.tokei_table_rules.specs.RowNames.{NamesBoth, is_total}
use Rattle.tokei_table_rules.specs.Tokens.{HasBadToken}
use Rattle.tokei_json_tree.specs.Bytes.{data_of_bytes}
use Rattle.tokei_table_json.specs.Outcome.{outcome_of_value}
use Rattle.tokei_table_json.specs.declared.error.TableError.{TableError}
use Rattle.tokei_table_json.specs.declared.error.TableError.TheVariants.{Token, NamedTwice, NamedTotal, Fallback}
use Rattle.tokei_table_json.specs.declared.flaw.TableFlaw.{TableFlaw}

-- The rows of a JSON value.
abbrev pub rows_in_value : Data → List Row
rows_in_value value = rows_at (get (codes "languages") value)

-- The rows of a text, which has none where it is no JSON text.
abbrev pub rows_in_data : Option Data → List Row
rows_in_data None = []
rows_in_data (Some d) = rows_in_value d

-- The rows of a table's bytes.
abbrev pub rows_in : List ℕ → List Row
rows_in bytes = rows_in_data (data_of_bytes bytes)

-- The flaw has this cause, language and word, and no other language.
pub record IsFlaw (why : TableError) (key text : List ℕ) (flaw : TableFlaw) : Type 0 where
  pub cause : flaw.cause ≡ why
  pub language : string_bytes flaw.language ≡ key
  pub word : string_bytes flaw.word ≡ text
  pub other : string_bytes flaw.other ≡ []

-- Where the flaw is a token, its language is one of the rows and has a bad token in that member.
abbrev pub TellsToken : List Row → TableFlaw → Type 0
TellsToken rows flaw = flaw.cause ≡ Token
    → HasBadToken rows (string_bytes flaw.language) (string_bytes flaw.word)

-- Where the flaw is a name of two languages, its word is key or name of both, and the other one
-- stands later.
abbrev pub TellsName : List Row → TableFlaw → Type 0
TellsName rows flaw = flaw.cause ≡ NamedTwice
    → NamesBoth rows (string_bytes flaw.word) (string_bytes flaw.language) (string_bytes flaw.other)

-- Where the flaw is the name `Total`, its language is one of the rows and is so named.
abbrev pub TellsTotal : List Row → TableFlaw → Type 0
TellsTotal rows flaw = flaw.cause ≡ NamedTotal
    → Any (λ r. (r.key ≡ string_bytes flaw.language) × (is_total r ≡ true)) rows

-- Where the flaw is a missing language, its language is one of the rows, and its word is the key of
-- one that it needs and that no row has.
abbrev pub TellsFallback : List Row → TableFlaw → Type 0
TellsFallback rows flaw = flaw.cause ≡ Fallback
    → Any (λ r. (r.key ≡ string_bytes flaw.language)
    × (holds (needed_keys (family_of r.key)) (string_bytes flaw.word) ≡ true)) rows
    × (has_key rows (string_bytes flaw.word) ≡ false)

-- The outcome is a refusal for the flaw's cause, and of the rows the flaw tells what goes with it.
pub record Tells (outcome : Result (List Row) TableError) (rows : List Row)
    (flaw : TableFlaw) : Type 0 where
  pub cause : outcome ≡ Err flaw.cause
  pub token : TellsToken rows flaw
  pub name : TellsName rows flaw
  pub total : TellsTotal rows flaw
  pub fallback : TellsFallback rows flaw

-- Whether a language keeps the value from being a table: where the value has no layout, one of its
-- languages has none; else the table is refused.
abbrev pub is_flawed_value : Data → Bool
is_flawed_value value =
    if has_layout value then is_err (outcome_of_value value)
    else has_unfit_language (get (codes "languages") value)

-- Whether a language keeps a text from being a table; none does where it is no JSON text.
abbrev pub is_flawed_data : Option Data → Bool
is_flawed_data None = false
is_flawed_data (Some d) = is_flawed_value d

-- Whether a language keeps the bytes from being a table.
abbrev pub is_flawed : List ℕ → Bool
is_flawed bytes = is_flawed_data (data_of_bytes bytes)
