use Rattle.std.proofs.Common.{ℕ, List, ◌++◌, ◌∙◌, sym, ap}
use lib.Utf8.{encode}
use Rattle.tokei_table_json.proofs.Characters.{chars_step, shorter_step}
use Rattle.tokei_table_json.proofs.escapes.first_char.Goals as goal

pub returns : goal.returns
returns c =
    let e = sym c.chars-chars.ensures.rest ∙ c.in_ok-c.ensures.steps.0
    ∙ ap (λ (t : List ℕ). encode c.in_ok-c.c ++ t) (sym c.as_str.ensures) in (
      chars_step c.args.s.now c.as_str.result.now c.in_ok-c.c c.utf8.s e,
      shorter_step c.args.s.now c.as_str.result.now c.in_ok-c.c e,
      c.as_str.utf8,
    )
