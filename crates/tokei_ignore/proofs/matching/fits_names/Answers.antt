use Rattle.std.proofs.Common.{List, sym, ap, ◌∙◌}
use Rattle.tokei_ignore.specs.declared.pieces.Segment.{Segment}
use Rattle.tokei_ignore.specs.Segments.{fits_names}
use Rattle.tokei_ignore.proofs.LastNames.{fits_last}
use Rattle.tokei_ignore.proofs.matching.fits_names.Goals as goal

pub returns-in-Some : goal.returns-in-Some
returns-in-Some c = c.fits_last_name.ensures ∙ sym (ap (λ (ss : List Segment). fits_names ss c.args.names.now) c.in-Some.ensures ∙ fits_last c.in-Some.pieces.now c.args.names.now)
