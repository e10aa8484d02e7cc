use Rattle.std.proofs.Common.{◌∙◌, ◌++◌, ap}
use Rattle.tokei_table_row.specs.Row.{Row}
use Rattle.tokei_table_row.specs.RowOf.{pairs_of, row_of, tokens_of}
use Rattle.tokei_parts.specs.PlainOpenings.{item_openings, line_openings}
use Rattle.tokei_parts.specs.Spans.{openings_of}
use Rattle.tokei_parts.specs.declared.items.ItemKind.TheVariants.{DocString, VerbatimString, OrdinaryString, MultiLineComment}
use Rattle.tokei_parts.proofs.OpeningLists.{six_joined}
use Rattle.tokei_parts.proofs.opening_table.openings_of.Goals as goal

pub returns : goal.returns
returns c =
    let g : Row = row_of c.args.syntax.now in
    six_joined (openings_of c.in_ok-all.all.items) (openings_of c.add_pairs.new.all.items) (openings_of c.add_pairs-2.new.all.items) (openings_of c.add_pairs-3.new.all.items)
    (openings_of c.add_pairs-4.new.all.items) (openings_of c.add_pairs-5.new.all.items) (openings_of c.add_lines.new.all.items)
    (item_openings DocString g.doc_quotes) (item_openings VerbatimString g.verbatim_quotes) (item_openings OrdinaryString g.quotes)
    (item_openings MultiLineComment g.multi_line_comments) (item_openings MultiLineComment g.nested_comments) (line_openings g.line_comment)
    (ap openings_of c.in_ok-all.ensures.items)
    (c.in_ok-add_pairs.ensures ∙ ap (λ ps. openings_of c.in_ok-all.all.items ++ item_openings DocString (pairs_of ps)) c.deref.ensures.value)
    (c.in_ok-add_pairs-2.ensures ∙ ap (λ ps. openings_of c.add_pairs.new.all.items ++ item_openings VerbatimString (pairs_of ps)) c.deref-2.ensures.value)
    (c.in_ok-add_pairs-3.ensures ∙ ap (λ ps. openings_of c.add_pairs-2.new.all.items ++ item_openings OrdinaryString (pairs_of ps)) c.deref-3.ensures.value)
    (c.in_ok-add_pairs-4.ensures ∙ ap (λ ps. openings_of c.add_pairs-3.new.all.items ++ item_openings MultiLineComment (pairs_of ps)) c.deref-4.ensures.value)
    (c.in_ok-add_pairs-5.ensures ∙ ap (λ ps. openings_of c.add_pairs-4.new.all.items ++ item_openings MultiLineComment (pairs_of ps)) c.deref-5.ensures.value)
    (c.in_ok-add_lines.ensures ∙ ap (λ ts. openings_of c.add_pairs-5.new.all.items ++ line_openings (tokens_of ts)) c.deref-6.ensures.value)
