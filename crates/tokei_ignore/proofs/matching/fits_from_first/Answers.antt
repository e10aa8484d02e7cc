use Rattle.std.proofs.Common.{sym, ap, ◌∙◌}
use Rattle.tokei_ignore.specs.Segments.{spans_names, fits_name}
use Rattle.tokei_ignore.proofs.Spans.{fits-reach, by_reach}
use Rattle.tokei_ignore.proofs.matching.fits_from_first.Goals as goal

pub returns-in-Fails : goal.returns-in-Fails
returns-in-Fails c = sym (fits-reach spans_names fits_name c.args.segments.now c.args.names.now ∙ ap (by_reach spans_names fits_name) (sym c.in-Fails.ensures))

pub returns-in-Done : goal.returns-in-Done
returns-in-Done c = sym (fits-reach spans_names fits_name c.args.segments.now c.args.names.now ∙ ap (by_reach spans_names fits_name) (sym c.in-Done.ensures))

pub returns-in-AtSpan : goal.returns-in-AtSpan
returns-in-AtSpan c =
    c.fits_some_later.ensures ∙ sym (fits-reach spans_names fits_name c.args.segments.now c.args.names.now ∙ ap (by_reach spans_names fits_name) (sym c.in-AtSpan.ensures))
