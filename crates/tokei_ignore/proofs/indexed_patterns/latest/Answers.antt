use Rattle.std.proofs.Common.{◌<◌, sym, ap, ◌∙◌, arith}
use Rattle.tokei_ignore.specs.declared.patterns.Pattern.{Pattern}
use Rattle.tokei_ignore.specs.Patterns.{fits_entry}
use Rattle.tokei_ignore.proofs.Chains.{begins, goes_on, is_found, is_best}
use Rattle.tokei_ignore.proofs.indexed_patterns.latest.Goals as goal

pub loop-at-init : goal.loop-at-init
loop-at-init c =
    let s = c.args.search.now in
    begins s.list.now s.heads.now s.earlier.now c.args.slot s.names.now s.folder c.requires.index c.requires.slot

pub loop-at-preserved : goal.loop-at-preserved
loop-at-preserved c =
    let s = c.args.search.now in
    let some : 0 < c.loop-at.at = let m = c.loop-at-test.true in omega (arith, m) in
    (goes_on s.list.now s.heads.now s.earlier.now c.args.slot c.loop-at.at s.names.now s.folder c.index-search-at.result
    c.requires.index c.loop-at.invariant some c.index-search-at.is (ap (λ (p : Pattern). fits_entry p s.names.now s.folder) c.index-search-at.is ∙ sym c.fits.ensures ∙ c.if-fits.false)).0

pub loop-at-smaller : goal.loop-at-smaller
loop-at-smaller c =
    let s = c.args.search.now in
    let some : 0 < c.loop-at.at = let m = c.loop-at-test.true in omega (arith, m) in
    (goes_on s.list.now s.heads.now s.earlier.now c.args.slot c.loop-at.at s.names.now s.folder c.index-search-at.result
    c.requires.index c.loop-at.invariant some c.index-search-at.is (ap (λ (p : Pattern). fits_entry p s.names.now s.folder) c.index-search-at.is ∙ sym c.fits.ensures ∙ c.if-fits.false)).1

pub returns-then-fits : goal.returns-then-fits
returns-then-fits c =
    let s = c.args.search.now in
    is_found s.list.now s.heads.now c.args.slot c.loop-at.at c.args.best s.names.now s.folder c.index-search-at.result
    c.loop-at.invariant c.loop-at-test.true c.index-search-at.is (ap (λ (p : Pattern). fits_entry p s.names.now s.folder) c.index-search-at.is ∙ sym c.fits.ensures ∙ c.if-fits.true)

pub returns : goal.returns
returns c =
    let s = c.args.search.now in
    is_best s.list.now s.heads.now c.args.slot c.loop-at.at c.args.best s.names.now s.folder c.loop-at.invariant c.loop-at-test.false
