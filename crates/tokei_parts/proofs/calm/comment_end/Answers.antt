use Rattle.std.proofs.Common.{arith}
use Rattle.tokei_parts.proofs.CalmPlaces.{calm_unclosed}
use Rattle.tokei_parts.proofs.calm.comment_end.Goals as goal

pub returns-in-MultiLineComment-len2-up-clause-calm : goal.returns-in-MultiLineComment-len2-up-clause-calm
returns-in-MultiLineComment-len2-up-clause-calm c =
    let e = c.comment_end_by_second.ensures in
    calm_unclosed c.args.reading.now c.args.item c.args.at c.comment_end_by_second.result c.in-MultiLineComment-len2-up.is-0 c.in-MultiLineComment-len2-up.len_at_least e.high e.none e.unclosed

pub returns-in_default-2 : goal.returns-in_default-2
returns-in_default-2 c = record { low = omega arith; high = c.requires; calm = λ p low high. absurd (omega (arith, low, high)) }
