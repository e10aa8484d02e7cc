use Rattle.std.proofs.Common.{◌≡◌, true, map, not, string_bytes, ap, sym, ◌∙◌}
use Rattle.tokei_table_row.specs.Bytes.{holds}
use Rattle.tokei_table_row.specs.RowOf.{row_of}
use Rattle.tokei_table_rules.specs.Fallbacks.{has_key, has_fallbacks}
use Rattle.tokei_table_rules.specs.Families.{family_of, needed_keys}
use Rattle.tokei_table_json.proofs.Flaws.{tells_fallback, row_told, row_passes, row_fails, refused, unrefused}
use Rattle.tokei_table_json.proofs.flaw.fallback_flaw.Goals as goal

pub returns-in-Some-clause-tells : goal.returns-in-Some-clause-tells
returns-in-Some-clause-tells c = tells_fallback _ c.in_ok-flaw.field-0 c.in_ok-flaw.ensures.cause λ _. (
  row_told row_of
      (λ r. (r.key ≡ string_bytes c.in_ok-flaw.field-0.language)
      × (holds (needed_keys (family_of r.key)) (string_bytes c.in_ok-flaw.field-0.word) ≡ true))
      c.args.rows.now c.loop-row.row-index c.row-item.result c.loop-row-test.true c.row-item.is (
        sym (c.in_ok-flaw.ensures.language ∙ c.as_str.ensures.value),
        ap (holds (needed_keys (family_of (row_of c.row-item.result).key))) c.in_ok-flaw.ensures.word ∙ c.in-Some.ensures.needed,
      ),
  ap (has_key (map row_of c.args.rows.now)) c.in_ok-flaw.ensures.word ∙ c.in-Some.ensures.missing,
)

pub returns-in-Some-clause-found : goal.returns-in-Some-clause-found
returns-in-Some-clause-found c =
    sym (ap not (row_fails row_of (has_fallbacks (map row_of c.args.rows.now)) c.args.rows.now c.loop-row.row-index c.row-item.result
    c.loop-row-test.true c.row-item.is c.loop-row.invariant (refused _ c.in-Some.ensures.found)))

pub loop-row-preserved : goal.loop-row-preserved
loop-row-preserved c =
    row_passes row_of (has_fallbacks (map row_of c.args.rows.now)) c.args.rows.now c.loop-row.row-index c.row-item.result
    c.loop-row-test.true c.row-item.is c.loop-row.invariant (unrefused _ c.in_default.ensures.found)
