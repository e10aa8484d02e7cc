use Rattle.std.proofs.Common.{◌≡◌, ◌-◌, ◌<◌, ◌≤◌, ◌∙◌, length, true, sym, subst}
use Rattle.tokei_table_row.specs.Slices.{between}
use Rattle.tokei_embedding.specs.NextOpenings.{OpensNoElement}
use Rattle.tokei_embedding.specs.Searches.{first_of, is_at}
use Rattle.tokei_embedding.specs.Tags.{token_of}
use Rattle.tokei_embedding.proofs.block_search.BlockSearch.next_tag_first.Goals as goal

pub next_tag-place-requires-clause-ends : goal.next_tag-place-requires-clause-ends
next_tag-place-requires-clause-ends c = subst (λ text. c.args.to ≤ length text) (sym (c.new-tags.ensures ∙ c.self.view_is)) c.requires.ends

pub returns : goal.returns
returns c =
    let a = c.args in
    let it = c.next_tag-place in
    let text = c.new-tags.ensures ∙ c.self.view_is in
    record {
      low = it.ensures.low;
      high = it.ensures.high;
      none = subst (λ text. OpensNoElement a.tag text a.start a.to a.at it.result) text it.ensures.none;
      exact = subst (λ text. it.result < a.to → is_at (it.result - a.start) (first_of (token_of a.tag) (between text a.start a.to)) ≡ true) text it.ensures.exact;
      same = c.keep.ensures;
    }
