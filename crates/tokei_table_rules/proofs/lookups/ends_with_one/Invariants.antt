use Rattle.std.proofs.Common.{◌≡◌, drop}
use Rattle.tokei_table_rules.specs.Lookups.{ends_with_one}
use Rattle.tokei_table_row.specs.RowOf.{tokens_of}
use Rattle.tokei_table_rules.proofs.lookups.ends_with_one.Given as goal

abbrev pub invariant-loop-suffix : goal.invariant-loop-suffix
invariant-loop-suffix l =
    ends_with_one (tokens_of (drop l.suffix-index l.suffixes)) l.name ≡ ends_with_one (tokens_of l.suffixes) l.name
