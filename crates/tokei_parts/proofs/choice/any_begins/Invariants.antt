use Rattle.std.proofs.Common.{◌≡◌, drop}
use Rattle.tokei_parts.specs.Choice.{any_begins}
use Rattle.tokei_table_row.specs.RowOf.{tokens_of}
use Rattle.tokei_parts.proofs.choice.any_begins.Given as goal

abbrev pub invariant-loop-token : goal.invariant-loop-token
invariant-loop-token l = any_begins (tokens_of (drop l.token-index l.tokens)) l.text ≡ any_begins (tokens_of l.tokens) l.text
