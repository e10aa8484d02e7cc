use Rattle.std.proofs.Common.{◌∙◌}
use Rattle.std.proofs.lemmas.List.{nil_from_length}
use Rattle.tokei_ignore.proofs.KeysTell.{key_of_last_name, key_of_no_name}
use Rattle.tokei_ignore.proofs.keys.key_of_name.Goals as goal

pub returns-in-None : goal.returns-in-None
returns-in-None c = key_of_no_name c.args.names.now (nil_from_length c.args.names.now c.in-None.ensures.cases)

pub returns-in-Some : goal.returns-in-Some
returns-in-Some c = c.onto_name.ensures ∙ key_of_last_name c.args.names.now c.in-Some.field-0-1.now c.in-Some.name.now c.in-Some.ensures.cases.0
