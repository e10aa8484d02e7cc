use Rattle.std.proofs.Common.{◌≡◌, ◌∙◌, ◌-◌, ℕ, List, Option, None, Some, true, drop, take, refl, subst, sym}
use Rattle.tokei_table.specs.Row.{Row}
use Rattle.tokei_parts.specs.Class.{in_comment}
use Rattle.tokei_parts.specs.CommentHeads.{OpensComment}
use Rattle.tokei_parts.specs.Derivation.{closer_of}
use Rattle.tokei_parts.specs.LineWalk.{item_in}
use Rattle.tokei_parts.specs.ReadingOf.{row_in}
use Rattle.tokei_parts.specs.SeenChoices.{mode_of}
use Rattle.tokei_parts.specs.declared.items.ItemKind.{ItemKind}
use Rattle.tokei_parts.specs.declared.items.LineItem.{LineItem}
use Rattle.tokei_parts.specs.declared.reading.Reading.{Reading}
use Rattle.tokei_parts.proofs.OneItem.{kind_of_item}
use Rattle.tokei_parts.proofs.class.ends_in_own_comment.Goals as goal

-- an item that is a comment has the closer that the walk keeps
closer_is : (item : LineItem) → in_comment (mode_of (item_in item)) ≡ true → item.closer.now ≡ closer_of (mode_of (item_in item))
closer_is item h = by_kind item.kind h
  where
    by_kind : (kind : Option ItemKind) → in_comment (mode_of (item_in (record { kind = kind; closer = item.closer }))) ≡ true
        → item.closer.now ≡ closer_of (mode_of (item_in (record { kind = kind; closer = item.closer })))
    by_kind None h = cc
    by_kind (Some k) h = refl

pub returns-then-is_comment-clause-comment : goal.returns-then-is_comment-clause-comment
returns-then-is_comment-clause-comment c = λ is. sym (c.is_comment.ensures (mode_of (item_in c.args.ended)) (kind_of_item c.args.ended)) ∙ c.if-is_comment.true

pub returns-then-is_comment-clause-opens : goal.returns-then-is_comment-clause-opens
returns-then-is_comment-clause-opens c = λ is.
    let r : Reading = c.args.reading.now in
    let part : List ℕ = take (c.args.stop - c.args.start) (drop c.args.start r.text.now) in
    let comment : in_comment (mode_of (item_in c.args.ended)) ≡ true = sym (c.is_comment.ensures (mode_of (item_in c.args.ended)) (kind_of_item c.args.ended)) ∙ c.if-is_comment.true in
    subst (OpensComment (row_in r) part) (closer_is c.args.ended comment)
    (subst (λ (g : Row). OpensComment g part c.args.ended.closer.now) r.row (c.opens_comment.ensures is))
