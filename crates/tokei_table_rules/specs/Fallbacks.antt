-- When the rows are there on which the children of others fall back.
use Rattle.std.specs.Prelude.{ℕ, Bool, List, bytes_eq}
use Rattle.std.specs.List.{list_all, list_any}
use Rattle.tokei_table_rules.specs.Families.{family_of, needed_keys}
use Rattle.tokei_table_row.specs.Row.{Row}

-- Whether a row has that key.
abbrev pub has_key : List Row → List ℕ → Bool
has_key rs key = list_any (λ r. bytes_eq r.key key) rs

-- The languages are there on which the children of that one fall back.
abbrev pub has_fallbacks : List Row → Row → Bool
has_fallbacks rs row = list_all (has_key rs) (needed_keys (family_of row.key))
