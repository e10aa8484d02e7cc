use Rattle.std.proofs.Common.{◌+◌, ◌++◌, ◌∙◌, ap, sym, map, drop, append-nil, append_assoc}
use Rattle.std.proofs.lemmas.List.{at_drop_more, at_drop_all}
use Rattle.tokei_table_row.specs.RowOf.{row_of}
use Rattle.tokei_table_rules.specs.TextIndex.{entries_of, entries_from, texts_of}
use Rattle.tokei_table_rules.proofs.text_index.entries_of.Goals as goal

pub loop-place-preserved : goal.loop-place-preserved
loop-place-preserved c =
    let rows = c.args.rows.now in
    let i = c.loop-place.place in
    let texts = texts_of c.args.kind in
    let before = c.loop-place.entries.items in
    let later = entries_from texts (i + 1) (map row_of (drop (i + 1) rows)) in
    ap (λ es. es ++ later) c.in_ok-add_row.ensures
    ∙ append_assoc before (entries_of i (texts (row_of c.index-rows-place.result))) later
    ∙ ap (λ row. before ++ (entries_of i (texts (row_of row)) ++ later)) c.index-rows-place.is
    ∙ sym (at_drop_more (λ rest. before ++ entries_from texts i (map row_of rest)) rows i
    c.index-rows-place.result c.loop-place-test.true)
    ∙ c.loop-place.invariant

pub loop-place-init : goal.loop-place-init
loop-place-init c =
    ap (λ es. es ++ entries_from (texts_of c.args.kind) 0 (map row_of c.args.rows.now)) c.in_ok-entries.ensures.items

pub returns : goal.returns
returns c =
    let all = c.loop-place.entries.items in
    sym (append-nil all)
    ∙ sym (at_drop_all (λ rest. all ++ entries_from (texts_of c.args.kind) c.loop-place.place (map row_of rest))
    c.args.rows.now c.loop-place.place c.loop-place-test.false)
    ∙ c.loop-place.invariant
