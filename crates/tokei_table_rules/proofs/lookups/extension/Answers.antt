use Rattle.tokei_table_rules.proofs.Dots.{extension_none, extension_first, extension_rest}
use Rattle.tokei_table_rules.proofs.lookups.extension.Goals as goal

pub returns-then-at-eq0 : goal.returns-then-at-eq0
returns-then-at-eq0 c = extension_first c.args.name.now c.in-Some.at c.if-at-eq0.true c.in-Some.ensures

pub returns-else-at-eq0 : goal.returns-else-at-eq0
returns-else-at-eq0 c = extension_rest c.args.name.now c.in-Some.at c.in-Some.ensures c.if-at-eq0.false

pub returns-in-None : goal.returns-in-None
returns-in-None c = extension_none c.args.name.now c.in-None.ensures
