use Rattle.std.proofs.Common.{◌≡◌, drop}
use Rattle.tokei_table_row.specs.Bytes.{begins_with_one}
use Rattle.tokei_table_row.specs.RowOf.{tokens_of}
use Rattle.tokei_table_row.proofs.ext.begins_with_one.Given as goal

abbrev pub invariant-loop-beginning : goal.invariant-loop-beginning
invariant-loop-beginning l =
    begins_with_one (tokens_of (drop l.beginning-index l.beginnings)) l.text
    ≡ begins_with_one (tokens_of l.beginnings) l.text
