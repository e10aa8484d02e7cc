use Rattle.std.proofs.Common.{◌≡◌, ◌+◌, length}
use denote.Text.{Utf8}
use denote.Shadow.{shadow}
use Rattle.std.specs.Str.{chars}
use Rattle.tokei_ignore.specs.Fits.{at_some_end}
use Rattle.tokei_ignore.specs.Segments.{fits_characters}
use Rattle.tokei_ignore.proofs.matching.fits_some_end.Given as goal

abbrev pub invariant-loop-others : goal.invariant-loop-others
invariant-loop-others l = shadow (Utf8 l.start) × (at_some_end (fits_characters l.pieces) (chars l.name) ≡ at_some_end (fits_characters l.left) (chars l.start))

abbrev pub decreases-loop-others : goal.decreases-loop-others
decreases-loop-others l = length l.left + length (chars l.start)
