use Rattle.std.proofs.Common.{sym, ◌∙◌}
use Rattle.tokei_table_json.proofs.Backslashes.{no_escapes, stands_for_itself}
use Rattle.tokei_table_json.proofs.token_lists.known_text.Goals as goal

pub returns-then-not-has_backslash : goal.returns-then-not-has_backslash
returns-then-not-has_backslash c =
    let none = sym c.has_backslash.ensures ∙ c.if-not-has_backslash.true in
    (no_escapes c.args.text.now c.utf8.text none, c.in_ok-from_str.ensures.ok ∙ stands_for_itself c.args.text.now c.utf8.text none)
