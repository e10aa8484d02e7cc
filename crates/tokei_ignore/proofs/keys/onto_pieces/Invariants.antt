use Rattle.std.proofs.Common.{◌≡◌, drop}
use Rattle.tokei_ignore.specs.Keys.{onto_pieces}
use Rattle.tokei_ignore.proofs.keys.onto_pieces.Given as goal

abbrev pub invariant-loop-piece : goal.invariant-loop-piece
invariant-loop-piece l = onto_pieces l.dots l.key (drop l.piece-index l.pieces) ≡ onto_pieces l.dots l.initial.key l.pieces
