use Rattle.std.proofs.Common.{◌≡◌, ◌||◌, ℕ, drop, length}
use Rattle.std.specs.List.{list_any}
use Rattle.tokei_bytes.specs.ByteSets.{is_in}
use Rattle.tokei_table.specs.FirstOpener.{is_first_of}
use Rattle.tokei_table.specs.RowOf.{tokens_of}
use Rattle.tokei_parts.proofs.beginnings.add_line_comments.Given as goal

abbrev pub invariant-loop-token : goal.invariant-loop-token
invariant-loop-token l = record {
  long : length l.begins ≡ length l.initial.begins;
  each : (x : ℕ)
      → (is_in l.begins x || list_any (is_first_of x) (tokens_of (drop l.token-index l.tokens)))
      ≡ (is_in l.initial.begins x || list_any (is_first_of x) (tokens_of l.tokens));
}
