use Rattle.std.proofs.Common.{◌≡◌, drop}
use Rattle.tokei_table_row.specs.Bytes.{holds}
use Rattle.tokei_table_row.specs.RowOf.{tokens_of}
use Rattle.tokei_table_row.proofs.ext.holds.Given as goal

abbrev pub invariant-loop-known : goal.invariant-loop-known
invariant-loop-known l = holds (tokens_of (drop l.known-index l.texts)) l.text ≡ holds (tokens_of l.texts) l.text
