use Rattle.std.proofs.Common.{◌≡◌, length, List, sym, ap, ◌∙◌, true, false, rules, Some}
use Rattle.std.proofs.lemmas.List.{nil_from_length}
use Rattle.tokei_ignore.specs.declared.patterns.Pattern.{Pattern}
use Rattle.tokei_ignore.specs.IgnoreFiles.{last_fitting}
use Rattle.tokei_ignore.specs.Patterns.{fits_entry}
use Rattle.tokei_ignore.proofs.Deciding.{decided, passed, none_decides}
use Rattle.tokei_ignore.proofs.ignore_files.verdict_of_few.Goals as goal

pub returns-then-fits : goal.returns-then-fits
returns-then-fits c =
    let names = c.args.names.now in let folder = c.args.folder in let p = c.in-Some.pattern.now in
    let fits : fits_entry p names folder ≡ true = sym c.fits.ensures ∙ c.if-fits.true in
    ap Some c.given_by.ensures ∙ sym (decided c.in-Some.front.now p names folder fits)
    ∙ ap (λ (ps : List Pattern). last_fitting ps names folder) (sym c.in-Some.ensures.cases.0)
    ∙ c.loop-pattern.invariant

pub loop-pattern-preserved : goal.loop-pattern-preserved
loop-pattern-preserved c =
    let names = c.args.names.now in let folder = c.args.folder in let p = c.in-Some.pattern.now in
    let fits : fits_entry p names folder ≡ false = sym c.fits.ensures ∙ c.if-fits.false in
    sym (passed c.in-Some.front.now p names folder fits) ∙ ap (λ (ps : List Pattern). last_fitting ps names folder) (sym c.in-Some.ensures.cases.0) ∙ c.loop-pattern.invariant

pub returns : goal.returns
returns c =
    let names = c.args.names.now in let folder = c.args.folder in
    let none : length c.loop-pattern.left.now ≡ 0 = search rules in
    sym (none_decides names folder) ∙ ap (λ (ps : List Pattern). last_fitting ps names folder) (sym (nil_from_length c.loop-pattern.left.now none)) ∙ c.loop-pattern.invariant
