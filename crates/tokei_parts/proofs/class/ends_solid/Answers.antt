use Rattle.std.proofs.Common.{not, sym, ap, ◌∙◌, arith}
use Rattle.std.proofs.lemmas.Grind.{common_steps}
use Rattle.tokei_parts.specs.CommentHeads.{ends_solid}
use Rattle.tokei_parts.proofs.CommentHeads.{ends_solid-push}
use Rattle.tokei_parts.proofs.class.ends_solid.Goals as goal

pub returns-in-Some : goal.returns-in-Some
returns-in-Some c = ap not c.is_whitespace.ensures ∙ sym (ap ends_solid c.in-Some.ensures.cases.0 ∙ ends_solid-push c.in-Some.field-0-1.now c.in-Some.last.now)

pub returns-in-None : goal.returns-in-None
returns-in-None c = grind (arith, common_steps)
