use Rattle.std.proofs.Common.{ap, sym, subst, string_bytes, ◌∙◌, codes}
use Rattle.std.proofs.lemmas.List.{drop_all}
use Rattle.json.specs.Value.{value_view, items_view}
use Rattle.serde_json.specs.Find.{get}
use Rattle.tokei_json_tree.specs.Ordered.{AreItemsOrdered}
use Rattle.tokei_json_tree.specs.TreeData.{data_of, items_data}
use Rattle.tokei_table_json.specs.Rows.{text_at, tags_in}
use Rattle.tokei_table_json.proofs.Left.{items_here, item_ordered, items_ordered}
use Rattle.tokei_table_json.proofs.Made.{none_made, one_made, all_made}
use Rattle.tokei_table_json.proofs.rows.tags.Goals as goal

pub tag-requires : goal.tag-requires
tag-requires c = item_ordered c.deref-item-items.result.now c.loop-item.item-index c.item-item.result c.loop-item-test.true c.item-item.is c.loop-item.invariant.ordered

pub loop-item-preserved : goal.loop-item-preserved
loop-item-preserved c =
    let l = c.loop-item in
    let xs = c.deref-item-items.result.now in
    let x = c.item-item.result in
    let d = data_of (value_view x) in
    record {
      ordered = items_ordered xs l.item-index x c.loop-item-test.true c.item-item.is l.invariant.ordered;
      value = one_made string_bytes l.out.items c.push.new.self.items c.in_ok-tag.field-0 (text_at (get (codes "tag") d)) _ _ _ l.invariant.value
          (ap (λ js. tags_in (items_data js)) (items_here xs l.item-index x c.loop-item-test.true c.item-item.is))
          c.in_ok-push.ensures.items c.in_ok-tag.ensures;
    }

pub returns : goal.returns
returns c =
    let l = c.loop-item in
    let xs = c.deref-item-items.result.now in
    all_made string_bytes l.out.items _ _ l.invariant.value
    (ap (λ ys. tags_in (items_data (items_view ys))) (drop_all l.item-index xs c.loop-item-test.false))
    ∙ ap (λ ys. tags_in (items_data (items_view ys))) c.deref-item-items.ensures.value

pub loop-item-init : goal.loop-item-init
loop-item-init c =
    let xs = c.deref-item-items.result.now in
    record {
      ordered = subst (λ ys. AreItemsOrdered (items_view ys)) (sym c.deref-item-items.ensures.value) c.requires;
      value = none_made string_bytes c.in_ok-out.out.items (tags_in (items_data (items_view xs))) c.in_ok-out.ensures.items;
    }
