use Rattle.std.proofs.Common.{◌≡◌, length}
use Rattle.tokei_embedding.specs.TargetBlocks.{target_after, target_of}
use Rattle.tokei_embedding.proofs.target_blocks.target_of.Given as goal

abbrev pub invariant-loop-rest : goal.invariant-loop-rest
invariant-loop-rest l = target_after l.word l.rest ≡ target_of l.text

abbrev pub decreases-loop-rest : goal.decreases-loop-rest
decreases-loop-rest l = length l.rest
