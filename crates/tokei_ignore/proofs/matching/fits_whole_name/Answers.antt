use Rattle.std.proofs.Common.{sym, ap, ◌∙◌}
use Rattle.std.specs.Str.{chars}
use Rattle.tokei_ignore.specs.Segments.{spans_characters, fits_character}
use Rattle.tokei_ignore.proofs.Spans.{fits-reach, by_reach}
use Rattle.tokei_ignore.proofs.matching.fits_whole_name.Goals as goal

pub returns-in-Fails : goal.returns-in-Fails
returns-in-Fails c = sym (fits-reach spans_characters fits_character c.args.pieces.now (chars c.args.name.now) ∙ ap (by_reach spans_characters fits_character) (sym c.in-Fails.ensures))

pub returns-in-Done : goal.returns-in-Done
returns-in-Done c = sym (fits-reach spans_characters fits_character c.args.pieces.now (chars c.args.name.now) ∙ ap (by_reach spans_characters fits_character) (sym c.in-Done.ensures))

pub returns-in-AtSpan : goal.returns-in-AtSpan
returns-in-AtSpan c =
    c.fits_some_end.ensures ∙ sym (fits-reach spans_characters fits_character c.args.pieces.now (chars c.args.name.now) ∙ ap (by_reach spans_characters fits_character) (sym c.in-AtSpan.ensures))
