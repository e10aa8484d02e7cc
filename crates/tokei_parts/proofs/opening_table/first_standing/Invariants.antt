use Rattle.std.proofs.Common.{◌≡◌, drop}
use Rattle.tokei_parts.specs.PlainOpenings.{first_opening}
use Rattle.tokei_parts.specs.Spans.{openings_of}
use Rattle.tokei_parts.proofs.opening_table.first_standing.Given as goal

abbrev pub invariant-loop-opening : goal.invariant-loop-opening
invariant-loop-opening l = first_opening (openings_of (drop l.opening-index l.openings)) l.text ≡ first_opening (openings_of l.openings) l.text
