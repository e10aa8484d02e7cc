use Rattle.std.proofs.Common.{◌≡◌, length}
use Rattle.std.specs.List.{slice_split}
use Rattle.tokei_ignore.specs.Patterns.{segments_from, is_slash}
use Rattle.tokei_ignore.proofs.patterns.segments.Given as goal

abbrev pub invariant-loop-segments : goal.invariant-loop-segments
invariant-loop-segments l = segments_from l.segments (slice_split is_slash l.left) ≡ segments_from l.initial.segments (slice_split is_slash l.chars)

abbrev pub decreases-loop-segments : goal.decreases-loop-segments
decreases-loop-segments l = length l.left
