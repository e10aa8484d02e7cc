use Rattle.std.proofs.Common.{◌≡◌, ℕ, take}
use Rattle.tokei_table_row.specs.FirstOpener.{is_first}
use Rattle.tokei_bytes.specs.OneOf.{is_one_of}
use Rattle.tokei_table_row.specs.RowOf.{tokens_of}
use Rattle.tokei_table_search.proofs.opener_index.first_bytes.Given as goal

abbrev pub invariant-loop-opener : goal.invariant-loop-opener
invariant-loop-opener l = (x : ℕ) → is_one_of l.firsts.items x ≡ is_first (tokens_of (take l.opener-index l.openers)) x
