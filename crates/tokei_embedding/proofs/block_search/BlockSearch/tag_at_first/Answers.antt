use Rattle.std.proofs.Common.{◌-◌, ◌≤◌, ◌∙◌, drop, length, sym, ap, subst}
use Rattle.tokei_table_row.specs.Slices.{between}
use Rattle.tokei_embedding.specs.Tags.{tag_block}
use Rattle.tokei_embedding.proofs.block_search.BlockSearch.tag_at_first.Goals as goal

pub tag_at-found-requires-clause-ends : goal.tag_at-found-requires-clause-ends
tag_at-found-requires-clause-ends c = subst (λ text. c.args.to ≤ length text) (sym (c.new-tags.ensures ∙ c.self.view_is)) c.requires.ends

pub returns : goal.returns
returns c =
    let a = c.args in
    let it = c.tag_at-found in
    record {
      block = it.ensures.block ∙ ap (λ text. tag_block a.tag (between text a.from a.to) (a.place - a.from) (drop a.place text)) (c.new-tags.ensures ∙ c.self.view_is);
      same = c.keep.ensures;
    }
