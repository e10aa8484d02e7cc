-- What becomes of a text whose rows were read without a tree.
use Rattle.std.proofs.Common.{◌≡◌, ℕ, not, List, Err, if◌then◌else◌, codes, sym, ap, ap₂, ◌∙◌}
use Rattle.serde_json.specs.Find.{get}
use Rattle.serde_json.specs.Read.{read}
use Rattle.tokei_table_json.specs.Next.{IsTableText}
use Rattle.tokei_table_json.specs.Rows.{rows_at}
use Rattle.tokei_table_row.specs.Row.{Row}
use Rattle.tokei_table_json.specs.Outcome.{outcome_of, outcome_of_value, tested}
use Rattle.tokei_table_json.specs.declared.error.TableError.TheVariants.{Layout, Escape}

pub outcome_of_text : (text : List ℕ) (rows : List Row) → IsTableText text rows → outcome_of (read text) ≡ tested rows
unfolding outcome_of_value
outcome_of_text text rows h =
    ap outcome_of h.reads
    ∙ ap₂ (λ x y. if not x then Err Layout else (if not y then Err Escape else tested (rows_at (get (codes "languages") h.value)))) h.layout h.escaped
    ∙ ap tested (sym h.made)
