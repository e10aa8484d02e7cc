use Rattle.std.proofs.Common.{◌≡◌, drop}
use Rattle.std.specs.List.{list_all}
use Rattle.tokei_table_row.specs.Sound.{is_token}
use Rattle.tokei_table_row.specs.RowOf.{tokens_of}
use Rattle.tokei_table_rules.proofs.tokens.are_tokens.Given as goal

abbrev pub invariant-loop-token : goal.invariant-loop-token
invariant-loop-token l =
    list_all is_token (tokens_of (drop l.token-index l.tokens)) ≡ list_all is_token (tokens_of l.tokens)
