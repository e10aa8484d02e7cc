use Rattle.std.proofs.Common.{◌≡◌, [], ◌∷◌, sym, ap, ◌∙◌, arith, rules}
use Rattle.std.proofs.lemmas.List.{nil_from_length}
use Rattle.tokei_ignore.specs.Fits.{at_some_end}
use Rattle.tokei_ignore.specs.Reach.{path_reach}
use Rattle.tokei_ignore.specs.Segments.{fits_names, spans_names, fits_name}
use Rattle.tokei_ignore.proofs.Spans.{committed, search_after, search_done, search_on, search_ends}
use Rattle.tokei_ignore.proofs.matching.fits_some_later.Goals as goal

pub returns-in-Done : goal.returns-in-Done
returns-in-Done c = sym (c.loop-others.invariant ∙ search_done spans_names fits_name c.loop-others.left.now c.loop-others.start.now c.in-Done.ensures)

pub loop-others-smaller-in-AtSpan : goal.loop-others-smaller-in-AtSpan
loop-others-smaller-in-AtSpan c =
    let h = committed spans_names fits_name c.loop-others.left.now c.loop-others.start.now c.in-AtSpan.others.now c.in-AtSpan.rest.now (sym c.in-AtSpan.ensures) in
    let fewer = h.fewer in let shorter = h.shorter in omega (arith, fewer, shorter)

pub loop-others-preserved-in-AtSpan : goal.loop-others-preserved-in-AtSpan
loop-others-preserved-in-AtSpan c =
    c.loop-others.invariant ∙ search_after spans_names fits_name c.loop-others.left.now c.loop-others.start.now c.in-AtSpan.others.now c.in-AtSpan.rest.now c.in-AtSpan.ensures

pub returns-in-None : goal.returns-in-None
returns-in-None c =
    let e : c.loop-others.start.now ≡ [] = nil_from_length c.loop-others.start.now c.in-None.ensures.cases in
    let r = c.in-Fails.ensures ∙ ap (path_reach c.loop-others.left.now) e in
    sym (c.loop-others.invariant ∙ ap (at_some_end (fits_names c.loop-others.left.now)) e ∙ search_ends spans_names fits_name c.loop-others.left.now r)

pub loop-others-preserved : goal.loop-others-preserved
loop-others-preserved c =
    let e : c.loop-others.start.now ≡ c.in-Some.field-0-0.now ∷ c.in-Some.later.now = search rules in
    let r = c.in-Fails.ensures ∙ ap (path_reach c.loop-others.left.now) e in
    c.loop-others.invariant ∙ ap (at_some_end (fits_names c.loop-others.left.now)) e ∙ search_on spans_names fits_name c.loop-others.left.now c.in-Some.field-0-0.now c.in-Some.later.now r
