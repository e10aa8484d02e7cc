use Rattle.std.proofs.Common.{sym, ◌∙◌, rules}
use Rattle.tokei_folders.proofs.LastNames.{is_behind, is_in_front, is_only_name, is_no_name}
use Rattle.tokei_folders.proofs.names.last_name.Goals as goal

pub returns-then-is_name : goal.returns-then-is_name
returns-then-is_name c =
    sym (is_behind c.loop-front.rest.now c.in-Some.front.now c.in-Some.piece.now c.in-Some.ensures.cases (sym c.is_name.ensures ∙ c.if-is_name.true)) ∙ c.loop-front.invariant.0

pub loop-front-preserved : goal.loop-front-preserved
loop-front-preserved c =
    let same = is_in_front c.loop-front.rest.now c.in-Some.front.now c.in-Some.piece.now c.in-Some.ensures.cases (sym c.is_name.ensures ∙ c.if-is_name.false) in
    (sym same ∙ c.loop-front.invariant.0, search rules)

pub returns-then-is_name-2 : goal.returns-then-is_name-2
returns-then-is_name-2 c =
    sym (is_only_name c.loop-front.rest.now c.in_default.ensures.cases (sym c.is_name-2.ensures ∙ c.if-is_name-2.true)) ∙ c.loop-front.invariant.0

pub returns-else-is_name-2 : goal.returns-else-is_name-2
returns-else-is_name-2 c =
    sym (is_no_name c.loop-front.rest.now c.in_default.ensures.cases (sym c.is_name-2.ensures ∙ c.if-is_name-2.false)) ∙ c.loop-front.invariant.0
