use Rattle.std.proofs.Common.{rules, sym}
use Rattle.tokei_bytes.proofs.Units.{units_of_pairs}
use Rattle.tokei_bytes.proofs.decoding.units_of.Goals as goal

pub returns : goal.returns
returns c = rw (sym (units_of_pairs c.args.order c.args.bytes.now)) (search rules)
