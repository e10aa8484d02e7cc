use Rattle.std.proofs.Common.{arith}
use Rattle.tokei_table_search.proofs.FirstBytes.{one_byte, two_bytes, three_bytes}
use Rattle.tokei_table_search.proofs.opener_index.first_of_few.Goals as goal

pub returns-in-len1 : goal.returns-in-len1
returns-in-len1 c =
    one_byte c.args.bytes.now c.args.text.now c.memchr.result c.in-len1.len_at_least c.in-len1.len_below
    c.memchr.ensures

pub returns-in-len2 : goal.returns-in-len2
returns-in-len2 c =
    two_bytes c.args.bytes.now c.args.text.now c.memchr2.result c.in-len2.len_at_least c.in-len2.len_below
    c.memchr2.ensures

pub returns-in-len3-up : goal.returns-in-len3-up
returns-in-len3-up c =
    three_bytes c.args.bytes.now c.args.text.now c.memchr3.result c.in-len3-up.len_at_least
    (omega (arith, c.requires)) c.memchr3.ensures
