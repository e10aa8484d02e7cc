-- The status is that of the ending where it is said.
use Rattle.std.proofs.Common.{◌∙◌, sym}
use Rattle.tokei_invocation.proofs.saying.conclude.Goals as goal

pub returns-in-Ok-clause-said : goal.returns-in-Ok-clause-said
returns-in-Ok-clause-said g c below same failed = c.in-Ok.ensures.said (sym c.status.ensures.is ∙ failed)

pub returns-in-Ok-clause-refused : goal.returns-in-Ok-clause-refused
returns-in-Ok-clause-refused g c two = sym c.status.ensures.is ∙ two
