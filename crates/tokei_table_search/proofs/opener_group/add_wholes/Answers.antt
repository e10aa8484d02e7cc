use Rattle.std.proofs.Common.{◌∙◌, ap, true, length}
use Rattle.std.proofs.lemmas.List.{length-replicate}
use Rattle.tokei_table_search.proofs.OpenerGroups.{wholes_filled}
use Rattle.tokei_table_search.proofs.opener_group.add_wholes.Goals as goal

pub returns-in-empty-clause-long : goal.returns-in-empty-clause-long
returns-in-empty-clause-long c = ap length c.fill.ensures ∙ length-replicate 256 true

pub returns-in-empty-clause-each : goal.returns-in-empty-clause-each
returns-in-empty-clause-each c = wholes_filled c.args.wholes.now c.fill.new.self c.args.opener.now c.fill.ensures c.in-empty.len_below
