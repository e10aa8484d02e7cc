use Rattle.std.proofs.Common.{◌≡◌, drop}
use Rattle.tokei_parts.specs.CommentHeads.{any_solid_begins}
use Rattle.tokei_table_row.specs.RowOf.{tokens_of}
use Rattle.tokei_parts.proofs.class.any_solid_begins.Given as goal

abbrev pub invariant-loop-token : goal.invariant-loop-token
invariant-loop-token l = any_solid_begins (tokens_of (drop l.token-index l.tokens)) l.text ≡ any_solid_begins (tokens_of l.tokens) l.text
