use Rattle.std.proofs.Common.{◌≡◌, drop, Some}
use Rattle.tokei_ignore.specs.Keys.{folded, onto_path}
use Rattle.tokei_ignore.proofs.keys.onto_segments.Given as goal

abbrev pub invariant-loop-segment : goal.invariant-loop-segment
invariant-loop-segment l = folded onto_path l.key (drop l.segment-index l.segments) ≡ folded onto_path (Some 3) l.segments
