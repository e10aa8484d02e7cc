use Rattle.std.proofs.Common.{◌≡◌, drop}
use Rattle.std.specs.List.{list_any}
use Rattle.tokei_ignore.specs.Segments.{is_in_range}
use Rattle.tokei_ignore.proofs.matching.is_member.Given as goal

abbrev pub invariant-loop-range : goal.invariant-loop-range
invariant-loop-range l = list_any (is_in_range l.c) (drop l.range-index l.ranges) ≡ list_any (is_in_range l.c) l.ranges
