use Rattle.std.proofs.Common.{ap, sym, ◌∙◌}
use Rattle.std.specs.Prelude.{not}
use Rattle.tokei_table_json.proofs.Backslashes.{no_escapes}
use Rattle.tokei_table_json.proofs.escapes.is_escaped.Goals as goal

pub returns-then-not-has_backslash : goal.returns-then-not-has_backslash
returns-then-not-has_backslash c =
    ap not c.if-not-has_backslash.true
    ∙ sym (no_escapes c.args.text.now c.utf8.text (sym c.has_backslash.ensures ∙ c.if-not-has_backslash.true))
