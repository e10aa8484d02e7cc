-- A table that a language keeps from being one.
use Rattle.std.specs.Prelude.{Bool, false, not, Option, Some}
use Rattle.serde_json.specs.Data.{Data, object}
use Rattle.tokei_table_json.specs.Layout.{are_languages}

-- The object `languages` has a member that is no language.
abbrev pub has_unfit_language : Option Data → Bool
has_unfit_language (Some (object ms)) = not (are_languages ms)
has_unfit_language found = false
