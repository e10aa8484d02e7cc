use Rattle.std.proofs.Common.{arith}
use Rattle.tokei_table_search.proofs.FirstBytes.{other_nearer, none_nearer, others_alone}
use Rattle.tokei_table_search.proofs.opener_index.+first_of.Goals as goal

pub returns-in-Some-first_of : goal.returns-in-Some-first_of
returns-in-Some-first_of t c =
    other_nearer c.args.bytes.now c.args.text.now
    (omega (
      arith,
      c.in-len3-up.len_at_least,
    )) c.in-Some.n c.in-Some-first_of.m c.in-Some.ensures c.in-Some-first_of.ensures

pub returns-in-None-first_of : goal.returns-in-None-first_of
returns-in-None-first_of t c =
    none_nearer c.args.bytes.now c.args.text.now
    (omega (arith, c.in-len3-up.len_at_least)) c.in-Some.n c.in-Some.ensures c.in-None-first_of.ensures

pub returns-in-None : goal.returns-in-None
returns-in-None t c =
    others_alone c.args.bytes.now c.args.text.now
    (omega (arith, c.in-len3-up.len_at_least)) c.first_of-in-None.result c.in-None.ensures c.first_of-in-None.ensures
