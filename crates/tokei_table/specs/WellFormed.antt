-- When the rows of a table can be counted with.
use Rattle.std.specs.Prelude.{◌≡◌, true, false, List}
use Rattle.std.specs.List.{list_all, list_any}
use Rattle.tokei_table_rules.specs.Fallbacks.{has_fallbacks}
use Rattle.tokei_table_rules.specs.RowNames.{names_twice, is_total}
use Rattle.tokei_table_rules.specs.Tokens.{has_tokens}
use Rattle.tokei_table.specs.KeyOrder.{IsInKeyOrder}
use Rattle.tokei_table_row.specs.Row.{Row}

-- The keys ascend, all texts that a count looks for are tokens, no text names two languages, none
-- is `Total`, and the languages are there on which children fall back.
pub record IsWellFormed (rs : List Row) : Type 0 where
  pub ordered : IsInKeyOrder rs
  pub tokens : list_all has_tokens rs ≡ true
  pub named_once : names_twice rs ≡ false
  pub no_total : list_any is_total rs ≡ false
  pub fallbacks : list_all (has_fallbacks rs) rs ≡ true
