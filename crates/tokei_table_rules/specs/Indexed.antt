-- What a table keeps beside its rows, so that no look-up walks over all of them.
use Rattle.std.specs.Prelude.{◌≡◌, ℕ, Bool, List}
use Rattle.std.specs.List.{list_any}
use Rattle.tokei_table_row.specs.Row.{Row}
use Rattle.tokei_table_rules.specs.PathSuffixes.{suffix_tails, has_short_suffix}
use Rattle.tokei_table_rules.specs.TextIndex.{AreGroups, entries_from, names, lowered_name}

-- The groups are those of the rows' keys and names, of their names in lower case, of their
-- extensions, of their whole names of files and of the last two bytes of their path suffixes, and
-- it is known whether one of these is short.
pub record IsIndexed (rows : List Row) (named lowered extensions filenames suffixes : List (List ℕ))
    (short : Bool) : Type 0 where
  pub by_name : AreGroups (entries_from names 0 rows) named
  pub by_lowered_name : AreGroups (entries_from lowered_name 0 rows) lowered
  pub by_extension : AreGroups (entries_from (λ r. r.extensions) 0 rows) extensions
  pub by_filename : AreGroups (entries_from (λ r. r.filenames) 0 rows) filenames
  pub by_suffix_tail : AreGroups (entries_from suffix_tails 0 rows) suffixes
  pub short_suffix : short ≡ list_any has_short_suffix rows
