use Rattle.std.proofs.Common.{◌∙◌, ◌++◌, refl, ap}
use Rattle.std.proofs.lemmas.List.{take_all}
use Rattle.tokei_table_row.specs.RowOf.{tokens_of}
use Rattle.tokei_parts.specs.PlainOpenings.{line_openings}
use Rattle.tokei_parts.specs.Spans.{openings_of}
use Rattle.tokei_parts.proofs.OpeningLists.{lines_joined, one_more}
use Rattle.tokei_parts.proofs.opening_table.add_lines.Goals as goal

pub loop-token-preserved : goal.loop-token-preserved
loop-token-preserved c =
    one_more (λ ts. line_openings (tokens_of ts)) lines_joined c.loop-token.all.items c.push.new.self.items _ (openings_of c.args.all.now.items)
    c.args.tokens.now c.loop-token.token-index c.token-item.result c.in_ok-push.ensures.items c.loop-token.invariant refl c.loop-token-test.true c.token-item.is

pub returns : goal.returns
returns c =
    c.loop-token.invariant
    ∙ ap (λ ts. openings_of c.args.all.now.items ++ line_openings (tokens_of ts)) (take_all c.loop-token.token-index c.args.tokens.now c.loop-token-test.false)
