use Rattle.std.proofs.Common.{◌∙◌, arith}
use Rattle.tokei_table_row.proofs.Finds.{finds_slice}
use Rattle.tokei_table_row.proofs.ext.contains_slice.Goals as goal

pub returns-then-not-is_empty : goal.returns-then-not-is_empty
returns-then-not-is_empty c =
    c.is_some.ensures ∙ finds_slice c.args.text.now c.args.needle.now c.find.result c.find.ensures (grind arith)
