-- What becomes of a table's bytes: its rows, or the first cause for which it is refused.
use Rattle.std.specs.Prelude.{ℕ, not, List, Option, Some, None, Result, Ok, Err, codes, if◌then◌else◌}
use Rattle.std.specs.List.{list_all, list_any}
use Rattle.serde_json.specs.Data.{Data}
use Rattle.serde_json.specs.Find.{get}
use Rattle.tokei_json_tree.specs.Bytes.{data_of_bytes}
use Rattle.tokei_table_json.specs.Escaped.{is_escaped_table}
use Rattle.tokei_table_json.specs.Layout.{has_layout}
use Rattle.tokei_table_row.specs.Row.{Row}
use Rattle.tokei_table_json.specs.Rows.{rows_at}
use Rattle.tokei_table_rules.specs.Fallbacks.{has_fallbacks}
use Rattle.tokei_table_rules.specs.RowNames.{names_twice, is_total}
use Rattle.tokei_table_rules.specs.Tokens.{has_tokens}
use Rattle.tokei_table_json.specs.declared.error.TableError.{TableError}
use Rattle.tokei_table_json.specs.declared.error.TableError.TheVariants.{NotJson, Layout, Escape, Token, NamedTwice}
use Rattle.tokei_table_json.specs.declared.error.TableError.TheVariants.{NamedTotal, Fallback}

-- The rows, unless a token, a name or a missing language forbids.
unfoldable pub tested : List Row → Result (List Row) TableError
tested rows =
    if not (list_all has_tokens rows) then Err Token
    else (if names_twice rows then Err NamedTwice
    else (if list_any is_total rows then Err NamedTotal
    else (if not (list_all (has_fallbacks rows) rows) then Err Fallback
    else Ok rows)))

-- What becomes of a JSON value.
unfoldable pub outcome_of_value : Data → Result (List Row) TableError
outcome_of_value value =
    if not (has_layout value) then Err Layout
    else (if not (is_escaped_table (get (codes "languages") value)) then Err Escape
    else tested (rows_at (get (codes "languages") value)))

-- What becomes of a text that may have no reading.
abbrev pub outcome_of : Option Data → Result (List Row) TableError
outcome_of None = Err NotJson
outcome_of (Some d) = outcome_of_value d

-- Out of memory aside, this is what reading a table answers.
abbrev pub outcome : List ℕ → Result (List Row) TableError
outcome bytes = outcome_of (data_of_bytes bytes)
