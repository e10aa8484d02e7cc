use Rattle.std.proofs.Common.{◌∙◌, sym, arith}
use Rattle.tokei_table_row.proofs.Trims.{trim_end-blank, trim_end-stop}
use Rattle.tokei_table_row.proofs.ext.trim_end.Goals as goal

pub loop-rest-preserved : goal.loop-rest-preserved
loop-rest-preserved c =
    trim_end-blank c.loop-rest.rest.now (sym c.is_whitespace.ensures ∙ c.if-not-is_whitespace.false)
    ∙ c.loop-rest.invariant

pub returns-then-not-is_whitespace : goal.returns-then-not-is_whitespace
returns-then-not-is_whitespace c =
    sym (trim_end-stop c.loop-rest.rest.now (omega arith) (sym c.is_whitespace.ensures ∙ c.if-not-is_whitespace.true))
    ∙ c.loop-rest.invariant
