use Rattle.std.proofs.Common.{◌≡◌, ◌-◌, suc, get_or, List, Some, sym, ap, ◌∙◌, arith}
use Rattle.tokei_ignore.specs.declared.patterns.Pattern.{Pattern}
use Rattle.tokei_ignore.specs.Index.{latest_fitting}
use Rattle.tokei_ignore.proofs.LastFitting.{none_fitting, some_fitting}
use Rattle.tokei_ignore.proofs.ignore_files.verdict_among.Goals as goal

pub returns-in-0 : goal.returns-in-0
returns-in-0 c = sym (none_fitting c.args.patterns.now c.args.names.now c.args.folder (sym c.latest_fitting.ensures.place ∙ c.in-0.is))

pub returns-in_default : goal.returns-in_default
returns-in_default c =
    let ps = c.args.patterns.now in
    let k = c.latest_fitting.result - 1 in
    let p = c.index-list-place.result in
    let place = c.latest_fitting.ensures.place in
    let e : latest_fitting ps c.args.names.now c.args.folder ≡ suc k = omega (arith, place) in
    let is : p ≡ get_or ps k p = c.index-list-place.is ∙ ap (λ (qs : List Pattern). get_or qs k p) c.as_slice-list.ensures in
    ap Some c.given_by.ensures ∙ sym (some_fitting ps c.args.names.now c.args.folder k p e is)
