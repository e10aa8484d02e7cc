use Rattle.std.proofs.Common.{◌≡◌, ap, ◌∙◌, arith}
use Rattle.std.proofs.lemmas.Grind.{common_steps}
use Rattle.tokei_folders.specs.Places.{joined}
use Rattle.tokei_folders.specs.Tree.{names_of}
use Rattle.tokei_folders.proofs.Joining.{names_of-joined}
use Rattle.tokei_folders.proofs.places.joined.Goals as goal

pub returns-clause-place : goal.returns-clause-place
unfolding joined
returns-clause-place c = grind (arith, common_steps)

pub returns-clause-names : goal.returns-clause-names
returns-clause-names c =
    let place : c.push_str-2.new.self ≡ joined c.args.place.now c.args.name.now = returns-clause-place c in
    ap names_of place ∙ names_of-joined c.args.place.now c.args.name.now
