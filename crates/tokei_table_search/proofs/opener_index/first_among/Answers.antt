use Rattle.tokei_bytes.specs.OneOf.{is_one_of}
use Rattle.tokei_table_search.proofs.OpenerGroups.{before_hit, without_hit}
use Rattle.tokei_table_search.proofs.opener_index.first_among.Goals as goal

pub returns-in-Some-clause-passed : goal.returns-in-Some-clause-passed
returns-in-Some-clause-passed c =
    before_hit (is_one_of c.args.bytes.now) c.args.text.now c.args.from c.requires c.in-Some.n c.in-Some.ensures

pub returns-in-None-clause-passed : goal.returns-in-None-clause-passed
returns-in-None-clause-passed c =
    without_hit (is_one_of c.args.bytes.now) c.args.text.now c.args.from c.requires c.in-None.ensures
