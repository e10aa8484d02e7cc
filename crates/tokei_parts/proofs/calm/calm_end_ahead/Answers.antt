use Rattle.std.proofs.Common.{ℕ, arith}
use Rattle.tokei_parts.proofs.CalmPlaces.{calm_on}
use Rattle.tokei_parts.proofs.calm.calm_end_ahead.Goals as goal

pub loop-next-preserved : goal.loop-next-preserved
loop-next-preserved c =
    let next : ℕ = c.loop-next.next in
    let e = c.stretch_end-next-in-loop-next.ensures in
    record {
      low = omega (arith, c.loop-next.invariant.low, e.low);
      high = e.high;
      calm = calm_on c.args.reading.now c.args.item c.args.at next c.stretch_end-next-in-loop-next.result c.loop-next.invariant.calm (c.takes_byte.ensures c.if-takes_byte.true) e.calm;
    }
