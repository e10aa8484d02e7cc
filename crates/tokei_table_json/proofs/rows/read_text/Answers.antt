use Rattle.std.proofs.Common.{◌≡◌, ◌∙◌, sym, string_bytes}
use Rattle.std.proofs.lemmas.Result.{IfOk-weaker}
use Rattle.tokei_table_json.specs.Escapes.{unescaped_text}
use Rattle.tokei_table_json.proofs.Backslashes.{stands_for_itself}
use Rattle.tokei_table_json.proofs.rows.read_text.Goals as goal

pub returns-else-has_backslash : goal.returns-else-has_backslash
returns-else-has_backslash c =
    IfOk-weaker c.from_str.result (λ s. string_bytes s ≡ c.args.text.now) (λ s. string_bytes s ≡ unescaped_text c.args.text.now)
    (λ s e. e ∙ stands_for_itself c.args.text.now c.utf8.text (sym c.has_backslash.ensures ∙ c.if-has_backslash.false))
    c.from_str.ensures.ok
