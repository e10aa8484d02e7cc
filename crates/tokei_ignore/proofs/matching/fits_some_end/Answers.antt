use Rattle.std.proofs.Common.{◌≡◌, [], sym, ap, ◌∙◌, arith, rules}
use Rattle.std.specs.Str.{chars}
use Rattle.tokei_ignore.specs.Fits.{at_some_end}
use Rattle.tokei_ignore.specs.Reach.{name_reach}
use Rattle.tokei_ignore.specs.Segments.{fits_characters, spans_characters, fits_character}
use Rattle.tokei_ignore.proofs.Spans.{committed, search_after, search_done, search_on, search_ends}
use Rattle.tokei_ignore.proofs.matching.fits_some_end.Goals as goal

pub returns-in-Done : goal.returns-in-Done
returns-in-Done c = sym (c.loop-others.invariant.1 ∙ search_done spans_characters fits_character c.loop-others.left.now (chars c.loop-others.start.now) c.in-Done.ensures)

pub loop-others-smaller-in-AtSpan : goal.loop-others-smaller-in-AtSpan
loop-others-smaller-in-AtSpan c =
    let h = committed spans_characters fits_character c.loop-others.left.now (chars c.loop-others.start.now) c.in-AtSpan.others.now (chars c.in-AtSpan.rest.now) (sym c.in-AtSpan.ensures) in
    let fewer = h.fewer in let shorter = h.shorter in omega (arith, fewer, shorter)

pub loop-others-preserved-in-AtSpan : goal.loop-others-preserved-in-AtSpan
loop-others-preserved-in-AtSpan c = (
  search rules,
  c.loop-others.invariant.1
      ∙ search_after spans_characters fits_character c.loop-others.left.now
      (chars c.loop-others.start.now) c.in-AtSpan.others.now (chars c.in-AtSpan.rest.now)
      c.in-AtSpan.ensures,
)

pub returns-in-None : goal.returns-in-None
returns-in-None c =
    let e : chars c.loop-others.start.now ≡ [] = c.in-None.ensures in
    let r = c.in-Fails.ensures ∙ ap (name_reach c.loop-others.left.now) e in
    sym (c.loop-others.invariant.1 ∙ ap (at_some_end (fits_characters c.loop-others.left.now)) e ∙ search_ends spans_characters fits_character c.loop-others.left.now r)

pub loop-others-preserved : goal.loop-others-preserved
loop-others-preserved c =
    let e = c.in-Some.ensures.0 in
    let r = c.in-Fails.ensures ∙ ap (name_reach c.loop-others.left.now) e in (
      c.in-Some.ensures.2,
      c.loop-others.invariant.1 ∙ ap (at_some_end (fits_characters c.loop-others.left.now)) e
          ∙ search_on spans_characters fits_character c.loop-others.left.now c.in-Some.field-0-0
          (chars c.in-Some.later.now) r,
    )
