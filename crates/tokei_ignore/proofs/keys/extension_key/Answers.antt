use Rattle.std.proofs.Common.{◌∙◌}
use Rattle.std.proofs.lemmas.List.{nil_from_length}
use Rattle.tokei_ignore.proofs.KeysTell.{extension_last, extension_none_at_all}
use Rattle.tokei_ignore.proofs.keys.extension_key.Goals as goal

pub returns-in-None : goal.returns-in-None
returns-in-None c = extension_none_at_all c.args.segments.now (nil_from_length c.args.segments.now c.in-None.ensures.cases)

pub returns-in-Some : goal.returns-in-Some
returns-in-Some c = c.onto_extension.ensures ∙ extension_last c.args.segments.now c.in-Some.field-0-1.now c.in-Some.segment.now c.in-Some.ensures.cases.0
