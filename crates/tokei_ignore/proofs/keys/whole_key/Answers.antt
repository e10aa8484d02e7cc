use Rattle.std.proofs.Common.{◌∙◌}
use Rattle.std.proofs.lemmas.List.{nil_from_length}
use Rattle.tokei_ignore.proofs.KeysTell.{whole_last, whole_none_at_all}
use Rattle.tokei_ignore.proofs.keys.whole_key.Goals as goal

pub returns-in-None : goal.returns-in-None
returns-in-None c = whole_none_at_all c.args.segments.now (nil_from_length c.args.segments.now c.in-None.ensures.cases)

pub returns-in-Some : goal.returns-in-Some
returns-in-Some c = c.onto_whole.ensures ∙ whole_last c.args.segments.now c.in-Some.field-0-1.now c.in-Some.segment.now c.in-Some.ensures.cases.0
