use Rattle.std.proofs.Common.{◌≡◌, ℕ, List, None, Some, ◌-◌, drop, take, false, refl, sym, ap, ◌∙◌, lt_of_lt_of_le}
use Rattle.tokei_table.specs.Row.{Row}
use Rattle.tokei_parts.specs.Class.{class_of}
use Rattle.tokei_parts.specs.Items.{Mode, kind_in}
use Rattle.tokei_parts.specs.ReadingOf.{row_in}
use Rattle.tokei_parts.specs.SeenChoices.{mode_of}
use Rattle.tokei_parts.specs.declared.items.ItemKind.{ItemKind}
use Rattle.tokei_parts.specs.declared.reading.Reading.{Reading}
use Rattle.tokei_parts.proofs.CommentHeads.{opened_line}
use Rattle.tokei_parts.proofs.CodeHeads.{code_head, comment_part, ends_in_string, front_part, solid_front, solid_part, string_part}
use Rattle.tokei_parts.specs.LineWalk.{item_in}
use Rattle.tokei_parts.proofs.OneItem.{kind_of_item, mode_of_item}
use Rattle.tokei_parts.proofs.class.class_by_item.Goals as goal

plain_of : (m : Mode) → kind_in m ≡ None → m ≡ None
plain_of None e = refl
plain_of (Some x) e = absurd (cc)

begun_some : (m : Mode) (kind : ItemKind) → kind_in m ≡ Some kind → m ≡ None → ⊥
begun_some None kind e none = cc
begun_some (Some x) kind e none = cc

-- the bytes of the part
abbrev part_bytes : Reading → ℕ → ℕ → List ℕ
part_bytes r start stop = take (stop - start) (drop start r.text.now)

pub returns-in-None : goal.returns-in-None
returns-in-None c = λ m is.
    let r : Reading = c.args.reading.now in
    let part : List ℕ = part_bytes r c.args.start c.args.stop in
    let literate : (row_in r).literate ≡ false = ap (λ (g : Row). g.literate) (sym r.row) ∙ c.if-not-literate.true in
    let solid = c.is_solid_at.ensures in
    sym (ap (λ (n : Mode). class_of (row_in r) r.docs_are_comments (record { begun = n; bytes = part; ended = mode_of (item_in c.args.ended) })) (plain_of m (is ∙ c.in-None.is))
    ∙ ap (λ docs. class_of (row_in r) docs (record { begun = None; bytes = part; ended = mode_of (item_in c.args.ended) })) c.if-not-reading.true
    ∙ ends_in_string (row_in r) part (mode_of (item_in c.args.ended)) literate
    (solid_part r.text.now c.args.start c.args.stop c.args.front c.requires.low (solid.place c.if-is_solid_at.true) c.requires.within (solid.solid c.if-is_solid_at.true))
    (sym (c.is_string.ensures (mode_of (item_in c.args.ended)) (kind_of_item c.args.ended)) ∙ c.if-is_string.true))

pub returns-in-None-2 : goal.returns-in-None-2
returns-in-None-2 c = λ m is.
    let r : Reading = c.args.reading.now in
    let part : List ℕ = part_bytes r c.args.start c.args.stop in
    let literate : (row_in r).literate ≡ false = ap (λ (g : Row). g.literate) (sym r.row) ∙ c.if-not-literate-2.true in
    sym (ap (λ (n : Mode). class_of (row_in r) r.docs_are_comments (record { begun = n; bytes = part; ended = mode_of (item_in c.args.ended) })) (plain_of m (is ∙ c.in-None-2.is))
    ∙ code_head (row_in r) r.sound r.matchers.now r.matched r.docs_are_comments (mode_of (item_in c.args.ended)) literate
    (sym (c.is_doc_string.ensures (mode_of (item_in c.args.ended)) (kind_of_item c.args.ended)) ∙ c.if-not-is_doc_string.true) part
    (solid_front r.text.now c.args.start c.args.front c.args.stop r.matchers.now c.requires.high c.requires.within c.requires.plain
    (c.has_solid.ensures c.if-has_solid.true)))

pub returns-in-None-3 : goal.returns-in-None-3
returns-in-None-3 c = λ m is.
    let r : Reading = c.args.reading.now in
    let part : List ℕ = part_bytes r c.args.start c.args.stop in
    let literate : (row_in r).literate ≡ false = ap (λ (g : Row). g.literate) (sym r.row) ∙ c.if-not-literate-3.true in
    let solid = c.is_solid_at-then-not-is_doc_string-2.ensures in
    sym (ap (λ (n : Mode). class_of (row_in r) r.docs_are_comments (record { begun = n; bytes = part; ended = mode_of (item_in c.args.ended) })) (plain_of m (is ∙ c.in-None-3.is))
    ∙ front_part (row_in r) r.sound r.matchers.now r.matched r.docs_are_comments (mode_of (item_in c.args.ended)) literate
    (sym (c.is_doc_string-then-not-literate-3.ensures (mode_of (item_in c.args.ended)) (kind_of_item c.args.ended)) ∙ c.if-not-is_doc_string-2.true)
    r.text.now c.args.start c.args.stop c.args.front c.requires.low (solid.place c.if-is_solid_at-2.true) c.requires.within c.requires.plain
    (solid.solid c.if-is_solid_at-2.true) (c.begins_no_comment.ensures c.if-begins_no_comment.true))

pub returns-in-None-4 : goal.returns-in-None-4
returns-in-None-4 c = λ m is.
    let r : Reading = c.args.reading.now in
    let part : List ℕ = part_bytes r c.args.start c.args.stop in
    let ended : Mode = mode_of (item_in c.args.ended) in
    let literate : (row_in r).literate ≡ false = ap (λ (g : Row). g.literate) (sym r.row) ∙ c.if-not-literate-4.true in
    let own = c.ends_in_own_comment.ensures in
    sym (ap (λ (n : Mode). class_of (row_in r) r.docs_are_comments (record { begun = n; bytes = part; ended = ended })) (plain_of m (is ∙ c.in-None-4.is))
    ∙ opened_line (row_in r) r.docs_are_comments part ended literate (own.comment c.if-ends_in_own_comment.true) (own.opens c.if-ends_in_own_comment.true))

pub returns-in-Some : goal.returns-in-Some
returns-in-Some c = λ m is.
    let r : Reading = c.args.reading.now in
    sym (comment_part (row_in r) r.docs_are_comments (part_bytes r c.args.start c.args.stop) m (mode_of (item_in c.args.ended))
    (sym (c.is_comment.ensures m is) ∙ c.if-is_comment.true) (sym (c.is_string-then-is_comment.ensures (mode_of (item_in c.args.ended)) (kind_of_item c.args.ended)) ∙ c.if-not-is_string.true))

pub returns-in-Some-2 : goal.returns-in-Some-2
returns-in-Some-2 c = λ m is.
    let r : Reading = c.args.reading.now in
    let part : List ℕ = part_bytes r c.args.start c.args.stop in
    let literate : (row_in r).literate ≡ false = ap (λ (g : Row). g.literate) (sym r.row) ∙ c.if-not-literate-5.true in
    sym (ap (λ docs. class_of (row_in r) docs (record { begun = m; bytes = part; ended = mode_of (item_in c.args.ended) })) c.if-not-reading-2.true
    ∙ string_part (row_in r) part m (mode_of (item_in c.args.ended)) (sym (c.if-not-is_comment.ensures m is)) (begun_some m c.in-Some-2.field-0 (is ∙ c.in-Some-2.is)) literate)

pub returns-in_default : goal.returns-in_default
returns-in_default c = λ m is.
    let r : Reading = c.args.reading.now in
    c.class_by_all.ensures m is
    ∙ ap (λ (n : Mode). class_of (row_in r) r.docs_are_comments (record { begun = m; bytes = part_bytes r c.args.start c.args.stop; ended = n })) (mode_of_item c.args.ended)

pub bounds-reading-front : goal.bounds-reading-front
bounds-reading-front c = lt_of_lt_of_le (c.is_solid_at-then-not-is_doc_string-2.ensures.place c.if-is_solid_at-2.true) c.requires.within
