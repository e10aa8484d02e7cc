use Rattle.std.proofs.Common.{List, ap, ◌∙◌}
use Rattle.tokei_ignore.specs.IgnoreFiles.{last_fitting}
use Rattle.tokei_ignore.specs.declared.patterns.Pattern.{Pattern}
use Rattle.tokei_walk.proofs.NearestFirst.{nearest_decides, nearest_passes}
use Rattle.tokei_walk.proofs.levels.decision.Goals as goal

pub returns-in-Some-verdict_among : goal.returns-in-Some-verdict_among
returns-in-Some-verdict_among c =
    let source = c.args.source in let is_folder = c.args.is_folder in let below = c.names_behind-below.result.now in
    let here = c.in-Some-verdict_among.ensures ∙ ap (λ (ps : List Pattern). last_fitting ps below is_folder) c.patterns.ensures in
    nearest_decides source c.loop-level.left.now c.in-Some.farther.now c.in-Some.level.now
    c.args.names.now below is_folder c.in-Some-verdict_among.verdict c.in-Some.ensures.cases.0
    c.names_behind-below.ensures here
    ∙ c.loop-level.invariant

pub loop-level-preserved : goal.loop-level-preserved
loop-level-preserved c =
    let source = c.args.source in let is_folder = c.args.is_folder in let below = c.names_behind-below.result.now in
    let here = c.in_default-verdict_among.ensures ∙ ap (λ (ps : List Pattern). last_fitting ps below is_folder) c.patterns.ensures in
    nearest_passes source c.loop-level.left.now c.in-Some.farther.now c.in-Some.level.now
    c.args.names.now below is_folder c.in-Some.ensures.cases.0 c.names_behind-below.ensures
    here
    ∙ c.loop-level.invariant
