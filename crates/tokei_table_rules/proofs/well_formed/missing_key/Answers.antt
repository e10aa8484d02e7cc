use Rattle.std.proofs.Common.{◌≡◌, ℕ, true, false, not, List, [], map, get_or, Bor, ap, sym, ◌∙◌, arith}
use Rattle.std.proofs.lemmas.Grind.{common_steps}
use Rattle.std.specs.List.{list_all}
use Rattle.std.specs.String.{string_bytes}
use Rattle.tokei_table_row.specs.Bytes.{holds}
use Rattle.tokei_table_row.specs.RowOf.{row_of}
use Rattle.tokei_table_rules.specs.Fallbacks.{has_key}
use Rattle.tokei_table_rules.specs.Families.{family_of, needed_keys}
use Rattle.tokei_table_rules.specs.MetNames.{words_of}
use Rattle.tokei_table_rules.proofs.FirstLeft.{by_first, held}
use Rattle.tokei_table_rules.proofs.well_formed.missing_key.Goals as goal

pub loop-key-preserved : goal.loop-key-preserved
loop-key-preserved c =
    by_first (λ t. t.now) (has_key (map row_of c.args.rows.now)) c.needed_keys-keys.result.now c.loop-key.key-index _
    c.loop-key-test.true c.loop-key.invariant true (sym c.has_key.ensures ∙ c.if-not-has_key.false)

pub returns-then-not-has_key : goal.returns-then-not-has_key
returns-then-not-has_key c =
    let rows = map row_of c.args.rows.now in
    let keys = c.needed_keys-keys.result.now in
    let i = c.loop-key.key-index in
    let none : Bor (List ℕ) = record { ref_ptr = (0, 0); now = [] } in
    let needed : words_of keys ≡ needed_keys (family_of (string_bytes c.args.row.now.key)) =
    c.needed_keys-keys.ensures
    ∙ ap needed_keys c.of_key.ensures
    ∙ ap (λ k. needed_keys (family_of k)) c.as_str.ensures.value in
    let missing = sym c.has_key.ensures ∙ c.if-not-has_key.true in
    record {
      found = ap not (by_first (λ t. t.now) (has_key rows) keys i _ c.loop-key-test.true c.loop-key.invariant false missing
          ∙ ap (list_all (has_key rows)) needed);
      needed = ap (λ ks. holds ks (get_or keys i none).now) (sym needed) ∙ held keys i none c.loop-key-test.true;
      missing = missing;
    }

pub returns-clause-found : goal.returns-clause-found
returns-clause-found c = grind (arith, common_steps)
