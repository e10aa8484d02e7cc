use Rattle.std.proofs.Common.{◌≡◌, ℕ, List, Bool, None, Some, [], ◌-◌, drop, take, true, false, refl, sym, ap, ◌∙◌}
use Rattle.tokei_table.specs.Bytes.{trim_start}
use Rattle.tokei_table.specs.Row.{Row}
use Rattle.tokei_parts.specs.Items.{kind_in}
use Rattle.tokei_parts.specs.Class.{class_of, in_doc_string, in_string}
use Rattle.tokei_parts.specs.Modes.{innermost}
use Rattle.tokei_parts.specs.Seen.{chain_of}
use Rattle.tokei_parts.specs.declared.items.Enclosure as Code
use Rattle.tokei_parts.specs.Items.{Mode}
use Rattle.tokei_parts.specs.ReadingOf.{row_in}
use Rattle.tokei_parts.specs.declared.items.ItemKind.{ItemKind}
use Rattle.tokei_parts.specs.declared.items.ItemKind.TheVariants.{DocString, VerbatimString, OrdinaryString, MultiLineComment}
use Rattle.tokei_parts.specs.declared.reading.Reading.{Reading}
use Rattle.tokei_parts.proofs.CodeHeads.{code_head, blank_part, comment_part, ends_in_string, literate_head, literate_part, solid_front, string_part}
use Rattle.tokei_parts.proofs.class.class_by.Goals as goal

plain_of : (m : Mode) → kind_in m ≡ None → m ≡ None
plain_of None e = refl
plain_of (Some x) e = absurd (cc)

begun_some : (m : Mode) (kind : ItemKind) → kind_in m ≡ Some kind → m ≡ None → ⊥
begun_some None kind e none = cc
begun_some (Some x) kind e none = cc

-- of the item in which a part began its kind alone counts
by_kind : (g : Row) (docs_are_comments : Bool) (kind : ItemKind) (a b bytes : List ℕ) (ended : Mode)
    → class_of g docs_are_comments (record { begun = Some (record { kind = kind; closer = a }); bytes = bytes; ended = ended })
    ≡ class_of g docs_are_comments (record { begun = Some (record { kind = kind; closer = b }); bytes = bytes; ended = ended })
unfolding class_of
by_kind g docs_are_comments DocString a b bytes ended = refl
by_kind g docs_are_comments VerbatimString a b bytes ended = refl
by_kind g docs_are_comments OrdinaryString a b bytes ended = refl
by_kind g docs_are_comments MultiLineComment a b bytes ended = refl

by_begun : (g : Row) (docs_are_comments : Bool) (m : Mode) (kind : ItemKind) (closer bytes : List ℕ) (ended : Mode) → kind_in m ≡ Some kind
    → class_of g docs_are_comments (record { begun = Some (record { kind = kind; closer = closer }); bytes = bytes; ended = ended })
    ≡ class_of g docs_are_comments (record { begun = m; bytes = bytes; ended = ended })
by_begun g docs_are_comments None kind closer bytes ended e = absurd (cc)
by_begun g docs_are_comments (Some x) kind closer bytes ended e =
    let same : kind ≡ x.kind = cc in
    by_kind g docs_are_comments kind closer x.closer bytes ended
    ∙ ap (λ k. class_of g docs_are_comments (record { begun = Some (record { kind = k; closer = x.closer }); bytes = bytes; ended = ended })) same

-- the mode at its end
abbrev ended : List Code.Enclosure → Mode
ended items = innermost (chain_of items)

-- the bytes of the part
abbrev part_bytes : Reading → ℕ → ℕ → List ℕ
part_bytes r start stop = take (stop - start) (drop start r.text.now)

pub returns-in-Some-Blank : goal.returns-in-Some-Blank
returns-in-Some-Blank c = λ m is.
    let r : Reading = c.args.reading.now in
    let part : List ℕ = part_bytes r c.args.start c.args.stop in
    let blank : trim_start part ≡ [] = c.class_by_front.ensures.blank (c.in-Some-Blank.is ∙ ap Some c.in-Some-Blank.field-0-is) in
    sym (ap (λ (n : Mode). class_of (row_in r) r.docs_are_comments (record { begun = n; bytes = part; ended = ended c.args.stack.now })) (plain_of m (is ∙ c.in-None.is))
    ∙ blank_part (row_in r) r.docs_are_comments part (ended c.args.stack.now) blank)

pub returns-in-None : goal.returns-in-None
returns-in-None c = λ m is.
    let r : Reading = c.args.reading.now in
    let part : List ℕ = part_bytes r c.args.start c.args.stop in
    let literate : (row_in r).literate ≡ false = ap (λ (g : Row). g.literate) (sym r.row) ∙ c.if-not-syntax.true in
    sym (ap (λ (n : Mode). class_of (row_in r) r.docs_are_comments (record { begun = n; bytes = part; ended = ended c.args.stack.now })) (plain_of m (is ∙ c.in-None.is))
    ∙ code_head (row_in r) r.sound r.matchers.now r.matched r.docs_are_comments (ended c.args.stack.now) literate
    (sym (ap in_doc_string c.innermost-ended.ensures) ∙ sym c.in_doc_string.ensures ∙ c.if-not-in_doc_string.true) part
    (solid_front r.text.now c.args.start c.args.front c.args.stop r.matchers.now c.requires.high c.requires.within c.requires.plain
    (c.has_solid.ensures c.if-has_solid.true)))

pub returns-in-None-class_by_front : goal.returns-in-None-class_by_front
returns-in-None-class_by_front c = λ m is.
    let r : Reading = c.args.reading.now in
    let part : List ℕ = part_bytes r c.args.start c.args.stop in
    let literate : (row_in r).literate ≡ false = ap (λ (g : Row). g.literate) (sym r.row) ∙ c.if-not-syntax-3.true in
    sym (ap (λ (n : Mode). class_of (row_in r) r.docs_are_comments (record { begun = n; bytes = part; ended = ended c.args.stack.now })) (plain_of m (is ∙ c.in-None.is))
    ∙ ap (λ docs. class_of (row_in r) docs (record { begun = None; bytes = part; ended = ended c.args.stack.now })) c.if-not-docs_are_comments.true
    ∙ ends_in_string (row_in r) part (ended c.args.stack.now) literate (c.class_by_front.ensures.solid c.in-None-class_by_front.is)
    (sym (ap in_string c.innermost-ended.ensures) ∙ sym c.in_string.ensures ∙ c.if-in_string.true))

pub returns-in-None-2-class_by_front : goal.returns-in-None-2-class_by_front
returns-in-None-2-class_by_front c = λ m is.
    let r : Reading = c.args.reading.now in
    let part : List ℕ = part_bytes r c.args.start c.args.stop in
    let literate : (row_in r).literate ≡ true = ap (λ (g : Row). g.literate) (sym r.row) ∙ c.if-syntax-2.true in
    sym (ap (λ (n : Mode). class_of (row_in r) r.docs_are_comments (record { begun = n; bytes = part; ended = ended c.args.stack.now })) (plain_of m (is ∙ c.in-None.is))
    ∙ literate_part (row_in r) r.docs_are_comments part (ended c.args.stack.now) literate (c.class_by_front.ensures.solid c.in-None-2-class_by_front.is))

pub returns-in-Some-Code : goal.returns-in-Some-Code
returns-in-Some-Code c = λ m is.
    let r : Reading = c.args.reading.now in
    let part : List ℕ = part_bytes r c.args.start c.args.stop in
    let literate : (row_in r).literate ≡ false = ap (λ (g : Row). g.literate) (sym r.row) ∙ c.if-not-syntax-2.true in
    sym (ap (λ (n : Mode). class_of (row_in r) r.docs_are_comments (record { begun = n; bytes = part; ended = ended c.args.stack.now })) (plain_of m (is ∙ c.in-None.is))
    ∙ code_head (row_in r) r.sound r.matchers.now r.matched r.docs_are_comments (ended c.args.stack.now) literate
    (sym (ap in_doc_string c.innermost-ended.ensures) ∙ sym c.in_doc_string-then-not-syntax-2.ensures ∙ c.if-not-in_doc_string-2.true) part
    (c.class_by_front.ensures.code (c.in-Some-Code.is ∙ ap Some c.in-Some-Code.field-0-is)))

pub returns-in-Some-Code-2 : goal.returns-in-Some-Code-2
returns-in-Some-Code-2 c = λ m is.
    let r : Reading = c.args.reading.now in
    let part : List ℕ = part_bytes r c.args.start c.args.stop in
    let literate : (row_in r).literate ≡ true = ap (λ (g : Row). g.literate) (sym r.row) ∙ c.if-syntax.true in
    sym (ap (λ (n : Mode). class_of (row_in r) r.docs_are_comments (record { begun = n; bytes = part; ended = ended c.args.stack.now })) (plain_of m (is ∙ c.in-None.is))
    ∙ literate_head (row_in r) r.docs_are_comments r.matchers.now part (ended c.args.stack.now) literate
    (c.class_by_front.ensures.code (c.in-Some-Code.is ∙ ap Some c.in-Some-Code.field-0-is)))

pub returns-in-Some : goal.returns-in-Some
returns-in-Some c = λ m is.
    let r : Reading = c.args.reading.now in
    sym (comment_part (row_in r) r.docs_are_comments (part_bytes r c.args.start c.args.stop) m (ended c.args.stack.now)
    (sym (c.is_comment.ensures m is) ∙ c.if-is_comment.true) (sym (ap in_string c.innermost-ended.ensures) ∙ sym c.in_string-then-is_comment.ensures ∙ c.if-not-in_string.true))

pub returns-in-Some-2 : goal.returns-in-Some-2
returns-in-Some-2 c = λ m is.
    let r : Reading = c.args.reading.now in
    let part : List ℕ = part_bytes r c.args.start c.args.stop in
    let literate : (row_in r).literate ≡ false = ap (λ (g : Row). g.literate) (sym r.row) ∙ c.if-not-syntax-4.true in
    sym (ap (λ docs. class_of (row_in r) docs (record { begun = m; bytes = part; ended = ended c.args.stack.now })) c.if-not-docs_are_comments-2.true
    ∙ string_part (row_in r) part m (ended c.args.stack.now) (sym (c.if-not-is_comment.ensures m is)) (begun_some m c.in-Some-2.field-0 (is ∙ c.in-Some-2.is)) literate)

pub returns-in-Some-3 : goal.returns-in-Some-3
returns-in-Some-3 c = λ m is.
    let r : Reading = c.args.reading.now in
    let part : List ℕ = part_bytes r c.args.start c.args.stop in
    c.class_begun_within.ensures
    ∙ by_begun (row_in r) r.docs_are_comments m c.in-Some-3.kind [] part (ended c.args.stack.now) (is ∙ c.in-Some-3.is)

pub returns-in_default : goal.returns-in_default
returns-in_default c = λ m is.
    let r : Reading = c.args.reading.now in
    let part : List ℕ = part_bytes r c.args.start c.args.stop in
    c.class_begun_plain.ensures
    ∙ ap (λ (n : Mode). class_of (row_in r) r.docs_are_comments (record { begun = n; bytes = part; ended = ended c.args.stack.now })) (sym (plain_of m (is ∙ c.in-None.is)))
