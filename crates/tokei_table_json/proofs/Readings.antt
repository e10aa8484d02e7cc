-- What becomes of a JSON value with the layout of a table, and which rows it has.
use Rattle.std.proofs.Common.{◌≡◌, true, false, Ok, Err, List, [], Option, Some, None, refl, is_err, codes}
use Rattle.std.specs.List.{list_all, list_any}
use Rattle.serde_json.specs.Data.{Data, null, boolean, number, string, array, object, Members}
use Rattle.serde_json.specs.Find.{get}
use Rattle.tokei_table_row.specs.Row.{Row}
use Rattle.tokei_table_rules.specs.Fallbacks.{has_fallbacks}
use Rattle.tokei_table_rules.specs.RowNames.{is_total, names_twice}
use Rattle.tokei_table_rules.specs.Tokens.{has_tokens}
use Rattle.tokei_table_json.specs.Escaped.{is_escaped_table}
use Rattle.tokei_table_json.specs.Flaws.{is_flawed_value}
use Rattle.tokei_table_json.specs.Layout.{has_layout, object_in}
use Rattle.tokei_table_json.specs.Outcome.{tested, outcome_of_value}
use Rattle.tokei_table_json.specs.Rows.{rows_in, rows_at}
use Rattle.tokei_table_json.specs.declared.error.TableError.TheVariants.{NamedTotal, Fallback}

-- a value that has the layout of a table, and but the known escapes
module _ (d : Data) (layout : has_layout d ≡ true) (escapes : is_escaped_table (get (codes "languages") d) ≡ true) where
  -- its rows are tested
  pub outcome_of_rows : tested (rows_at (get (codes "languages") d)) ≡ outcome_of_value d
  unfolding outcome_of_value
  outcome_of_rows = rw (layout, escapes)

  -- it is flawed where they are refused
  pub flawed_rows : is_err (tested (rows_at (get (codes "languages") d))) ≡ is_flawed_value d
  unfolding outcome_of_value
  flawed_rows = rw (layout, escapes)

-- rows whose tokens are good, and whose names are told apart
module _ (rows : List Row) (tokens : list_all has_tokens rows ≡ true) (once : names_twice rows ≡ false) where
  -- rows are refused where one is named Total
  pub one_total : list_any is_total rows ≡ true → tested rows ≡ Err NamedTotal
  unfolding tested
  one_total total = rw (tokens, once, total)

  -- rows are refused where a language is missing
  pub one_missing : list_any is_total rows ≡ false → list_all (has_fallbacks rows) rows ≡ false → tested rows ≡ Err Fallback
  unfolding tested
  one_missing total missing = rw (tokens, once, total, missing)

  -- rows stay that pass each test
  pub all_pass : list_any is_total rows ≡ false → list_all (has_fallbacks rows) rows ≡ true → tested rows ≡ Ok rows
  unfolding tested
  all_pass total there = rw (tokens, once, total, there)

-- the rows of the object that stands there
pub object_rows : (found : Option Data) (ms : Members) → Some ms ≡ object_in found → rows_in ms ≡ rows_at found
object_rows None ms e = cc
object_rows (Some null) ms e = cc
object_rows (Some (boolean b)) ms e = cc
object_rows (Some (number n)) ms e = cc
object_rows (Some (string s)) ms e = cc
object_rows (Some (array ds)) ms e = cc
object_rows (Some (object ns)) ms e = cc

-- there are none where no object stands
pub no_rows : (found : Option Data) → None ≡ object_in found → [] ≡ rows_at found
no_rows None e = refl
no_rows (Some null) e = refl
no_rows (Some (boolean b)) e = refl
no_rows (Some (number n)) e = refl
no_rows (Some (string s)) e = refl
no_rows (Some (array ds)) e = refl
no_rows (Some (object ms)) e = cc
