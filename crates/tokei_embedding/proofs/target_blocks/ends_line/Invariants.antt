use Rattle.std.proofs.Common.{◌≡◌, drop}
use Rattle.tokei_embedding.specs.TargetBlocks.{ends_line}
use Rattle.tokei_embedding.proofs.target_blocks.ends_line.Given as goal

abbrev pub invariant-loop-byte : goal.invariant-loop-byte
invariant-loop-byte l = ends_line (drop l.byte-index l.text) ≡ ends_line l.text
