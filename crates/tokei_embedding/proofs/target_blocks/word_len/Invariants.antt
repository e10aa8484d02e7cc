use Rattle.std.proofs.Common.{◌≡◌, ◌+◌, drop}
use Rattle.tokei_embedding.specs.TargetBlocks.{word_len}
use Rattle.tokei_embedding.proofs.target_blocks.word_len.Given as goal

abbrev pub invariant-loop-i : goal.invariant-loop-i
invariant-loop-i l = word_len l.text ≡ l.i + word_len (drop l.i l.text)
