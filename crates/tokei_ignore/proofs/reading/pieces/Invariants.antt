use Rattle.std.proofs.Common.{◌≡◌, length}
use Rattle.tokei_ignore.specs.Reading.{read}
use Rattle.tokei_ignore.proofs.reading.pieces.Given as goal

abbrev pub invariant-loop-c : goal.invariant-loop-c
invariant-loop-c l = read l.reading l.left ≡ read l.initial.reading l.chars

abbrev pub decreases-loop-c : goal.decreases-loop-c
decreases-loop-c l = length l.left
