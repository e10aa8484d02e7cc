use Rattle.std.proofs.Common.{◌∙◌, ap, true, length}
use Rattle.std.proofs.lemmas.List.{length-replicate}
use Rattle.tokei_table_search.proofs.OpenerGroups.{seconds_filled}
use Rattle.tokei_table_search.proofs.opener_group.add_seconds.Goals as goal

pub returns-in_default-clause-long : goal.returns-in_default-clause-long
returns-in_default-clause-long c = ap length c.fill.ensures ∙ length-replicate 256 true

pub returns-in_default-clause-each : goal.returns-in_default-clause-each
returns-in_default-clause-each c = seconds_filled c.args.seconds.now c.fill.new.self c.args.opener.now c.fill.ensures c.in_default.len_below
