use Rattle.std.proofs.Common.{arith, ◌+◌}
use Rattle.tokei_bytes.specs.OneOf.{is_one_of}
use Rattle.tokei_table_search.proofs.FirstBytes.{hit_in_part, none_in_part}
use Rattle.tokei_table_search.proofs.opener_index.first_in_blocks.Goals as goal

pub returns-in-Some : goal.returns-in-Some
returns-in-Some c =
    hit_in_part (is_one_of c.args.bytes.now) c.args.text.now c.loop-from.from (c.loop-from.from + c.min.result)
    (omega arith) (omega (
      arith,
      c.min.ensures,
      c.loop-from.invariant.0,
    )) c.loop-from.invariant.1 c.in-Some.n c.in-Some.ensures

pub loop-from-preserved : goal.loop-from-preserved
loop-from-preserved c = (
  omega (arith, c.min.ensures, c.loop-from.invariant.0),
  none_in_part (is_one_of c.args.bytes.now) c.args.text.now c.loop-from.from (c.loop-from.from + c.min.result)
      (omega arith) (omega (
        arith,
        c.min.ensures,
        c.loop-from.invariant.0,
      )) c.loop-from.invariant.1 c.in_default.ensures,
  omega (arith, c.min-width.ensures, c.loop-from.invariant.2),
  omega (arith, c.min-width.ensures),
)
