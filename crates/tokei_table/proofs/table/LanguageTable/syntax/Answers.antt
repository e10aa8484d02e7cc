use Rattle.std.proofs.Common.{◌≡◌, ◌∙◌, ap, sym, subst, true, length, arith}
use Rattle.std.proofs.lemmas.Grind.{common_steps}
use Rattle.std.proofs.lemmas.List.{length-map}
use Rattle.std.specs.List.{list_all}
use Rattle.tokei_table_row.specs.RowOf.{row_of}
use Rattle.tokei_table_rules.specs.Tokens.{has_tokens}
use Rattle.tokei_table_rules.proofs.RowSound.{all_at, sound_row}
use Rattle.tokei_table.proofs.table.LanguageTable.syntax.Goals as goal

tokens : (c : goal.After-index-rows-index) → has_tokens (row_of c.index-rows-index.result) ≡ true
tokens c =
    let rows = c.rows.result.now in
    ap (λ s. has_tokens (row_of s)) c.index-rows-index.is
    ∙ all_at has_tokens row_of rows c.index.result c.index-rows-index.result
    (subst (λ rs. list_all has_tokens rs ≡ true) (sym (c.rows.ensures ∙ c.as_ref.ensures)) c.self.invariant.tokens)
    (omega (arith, c.requires, c.index.ensures, ap length c.self.view_is, ap length c.rows.ensures, ap length c.as_ref.ensures, length-map rows row_of))

pub returns-clause-tokens : goal.returns-clause-tokens
returns-clause-tokens c = tokens c

pub returns-clause-sound : goal.returns-clause-sound
returns-clause-sound c = sound_row (row_of c.index-rows-index.result) (tokens c)

pub bounds-rows-index : goal.bounds-rows-index
bounds-rows-index c = grind (arith, common_steps)

pub offset_bounds-rows-index : goal.offset_bounds-rows-index
offset_bounds-rows-index c = grind (arith, common_steps)

pub returns-clause-row : goal.returns-clause-row
returns-clause-row c = grind (arith, common_steps)
