use Rattle.std.proofs.Common.{◌≡◌, drop}
use Rattle.tokei_table_rules.specs.Lookups.{first_where}
use Rattle.tokei_table_rules.specs.TextIndex.{first_among, has_text}
use Rattle.tokei_table_rules.proofs.lookups.first_indexed.Given as goal

abbrev pub invariant-loop-place : goal.invariant-loop-place
invariant-loop-place l =
    first_among (has_text l.kind l.text) l.rows (drop l.place-index l.places) ≡ first_where (has_text l.kind l.text) l.rows
