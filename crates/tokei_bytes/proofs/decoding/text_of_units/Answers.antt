use Rattle.std.proofs.Common.{arith}
use Rattle.tokei_bytes.proofs.Units.{encoded_even, encoded_odd}
use Rattle.tokei_bytes.proofs.decoding.text_of_units.Goals as goal

pub returns : goal.returns
returns c = grind (arith, encoded_odd, encoded_even)
