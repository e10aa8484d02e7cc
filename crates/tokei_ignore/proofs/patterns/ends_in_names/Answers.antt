use Rattle.std.proofs.Common.{sym, ap, ◌∙◌}
use Rattle.tokei_ignore.specs.Patterns.{ends_in_names}
use Rattle.tokei_ignore.proofs.Deciding.{ends_in_names-push}
use Rattle.tokei_ignore.proofs.patterns.ends_in_names.Goals as goal

pub returns-in-Some : goal.returns-in-Some
returns-in-Some c = c.spans.ensures ∙ sym (ap ends_in_names c.in-Some.ensures.cases.0 ∙ ends_in_names-push c.in-Some.field-0-1.now c.in-Some.segment.now)
