use Rattle.std.proofs.Common.{◌≡◌, ◌+◌, length}
use Rattle.tokei_ignore.specs.Fits.{at_some_end}
use Rattle.tokei_ignore.specs.Segments.{fits_names}
use Rattle.tokei_ignore.proofs.matching.fits_some_later.Given as goal

abbrev pub invariant-loop-others : goal.invariant-loop-others
invariant-loop-others l = at_some_end (fits_names l.segments) l.names ≡ at_some_end (fits_names l.left) l.start

abbrev pub decreases-loop-others : goal.decreases-loop-others
decreases-loop-others l = length l.left + length l.start
