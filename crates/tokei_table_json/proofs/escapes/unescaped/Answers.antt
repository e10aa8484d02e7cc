use Rattle.std.proofs.Common.{arith, ◌++◌, ap, sym}
use Rattle.std.proofs.lemmas.Grind.{common_steps}
use Rattle.std.specs.Prelude.{encode_utf8_all}
use Rattle.std.specs.Str.{chars}
use Rattle.tokei_table_json.specs.Escapes.{unescaped}
use Rattle.tokei_table_json.proofs.escapes.unescaped.Goals as goal

pub loop-c-preserved : goal.loop-c-preserved
loop-c-preserved c = grind (arith, common_steps)

pub loop-c-preserved-then-c-eq92 : goal.loop-c-preserved-then-c-eq92
loop-c-preserved-then-c-eq92 c = grind (arith, common_steps)

pub loop-c-init : goal.loop-c-init
loop-c-init c = (c.utf8.text, ap (λ made. made ++ encode_utf8_all (unescaped (chars c.args.text.now))) (sym c.in_ok-out.ensures.bytes))
