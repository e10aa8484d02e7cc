use Rattle.std.proofs.Common.{◌≡◌, ◌-◌, ◌≤◌, take, drop}
use Rattle.tokei_parts.specs.MarkdownChildren.{known_piece}
use Rattle.tokei_parts.proofs.Pieces.{known_from}
use Rattle.tokei_parts.proofs.openings.known_piece.Given as goal

-- the piece under way, and what is left
abbrev pub invariant-loop-i : goal.invariant-loop-i
invariant-loop-i l = record {
  begun : l.begun ≤ l.i;
  same : known_from l.table (take (l.i - l.begun) (drop l.begun l.info)) (drop l.i l.info) ≡ known_piece l.table l.info;
}
