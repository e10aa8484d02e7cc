use Rattle.std.proofs.Common.{◌&&◌, refl, sym, ap, ◌∙◌, subst, rules, bytes_eq, codes}
use Rattle.tokei_json_tree.specs.Ordered.{IsOrdered}
use Rattle.tokei_json_tree.specs.TreeData.{data_of, members_data}
use Rattle.json.specs.Value.{members_view, value_view}
use Rattle.json.specs.declared.value.Value.{the_lemmas}
use Rattle.tokei_json.specs.Layout.{are_blobs, blobs_stand, has_counts, is_statistics}
use Rattle.tokei_json_tree.proofs.Left.{failed, found, from, none_left, object_seen, passed, skipped}
use Rattle.tokei_json.proofs.layout.+statistics.Goals as goal

pub is_statistics-loop-member-init : goal.is_statistics-loop-member-init
is_statistics-loop-member-init t c =
    record { same = refl; ordered = (subst IsOrdered (object_seen _ _ _ c.in-Object.is c.deref-member-items.ensures.value) (c.requires)).1 }

pub is_statistics-are_blobs-requires : goal.is_statistics-are_blobs-requires
is_statistics-are_blobs-requires t c =
    (search (rules, the_lemmas), (from c.loop-member.invariant c.member-item.result c.loop-member-test.true c.member-item.is).ordered.0)

pub is_statistics-loop-member-preserved : goal.is_statistics-loop-member-preserved
is_statistics-loop-member-preserved t c =
    let x = c.member-item.result in
    let n = from c.loop-member.invariant x c.loop-member-test.true c.member-item.is in
    skipped n (bytes_eq x.0.now (codes "blobs")) (are_blobs (data_of (value_view x.1))) refl (sym c.eq.ensures ∙ c.if-eq.false) n.ordered.1

pub is_statistics-returns-then-eq : goal.is_statistics-returns-then-eq
is_statistics-returns-then-eq t c =
    let x = c.member-item.result in
    let xs = c.deref-member-items.result.now in
    let n = from c.loop-member.invariant x c.loop-member-test.true c.member-item.is in
    let seen = object_seen _ _ xs c.in-Object.is c.deref-member-items.ensures.value in
    let counts = ap (λ j. has_counts (data_of j)) (sym seen) ∙ sym c.has_counts.ensures ∙ c.if-not-has_counts.false in
    c.are_blobs.ensures ∙ sym (ap (λ j. is_statistics (data_of j)) seen
    ∙ ap (λ b. b && blobs_stand (members_data (members_view xs))) counts
    ∙ found n (bytes_eq x.0.now (codes "blobs")) (are_blobs (data_of (value_view x.1))) refl (sym c.eq.ensures ∙ c.if-eq.true))

pub is_statistics-returns-after-loop-member : goal.is_statistics-returns-after-loop-member
is_statistics-returns-after-loop-member t c =
    let xs = c.deref-member-items.result.now in
    let seen = object_seen _ _ xs c.in-Object.is c.deref-member-items.ensures.value in
    let counts = ap (λ j. has_counts (data_of j)) (sym seen) ∙ sym c.has_counts.ensures ∙ c.if-not-has_counts.false in
    sym (ap (λ j. is_statistics (data_of j)) seen
    ∙ ap (λ b. b && blobs_stand (members_data (members_view xs))) counts ∙ none_left c.loop-member.invariant c.loop-member-test.false)

pub are_blobs-loop-member-init : goal.are_blobs-loop-member-init
are_blobs-loop-member-init t c =
    record { same = refl; ordered = (subst IsOrdered (object_seen _ _ _ c.in-Object.is c.deref-member-items.ensures.value) (c.requires)).1 }

pub are_blobs-is_statistics-requires : goal.are_blobs-is_statistics-requires
are_blobs-is_statistics-requires t c =
    (search (rules, the_lemmas), (from c.loop-member.invariant c.member-item.result c.loop-member-test.true c.member-item.is).ordered.0)

pub are_blobs-loop-member-preserved : goal.are_blobs-loop-member-preserved
are_blobs-loop-member-preserved t c =
    let x = c.member-item.result in
    let n = from c.loop-member.invariant x c.loop-member-test.true c.member-item.is in
    passed n (is_statistics (data_of (value_view x.1))) refl (sym c.is_statistics.ensures ∙ c.if-not-is_statistics.false) n.ordered.1

pub are_blobs-returns-then-not-is_statistics : goal.are_blobs-returns-then-not-is_statistics
are_blobs-returns-then-not-is_statistics t c =
    let x = c.member-item.result in
    let n = from c.loop-member.invariant x c.loop-member-test.true c.member-item.is in
    let seen = object_seen _ _ _ c.in-Object.is c.deref-member-items.ensures.value in
    sym (ap (λ j. are_blobs (data_of j)) seen
    ∙ failed n (is_statistics (data_of (value_view x.1))) refl (sym c.is_statistics.ensures ∙ c.if-not-is_statistics.true))

pub are_blobs-returns-after-loop-member : goal.are_blobs-returns-after-loop-member
are_blobs-returns-after-loop-member t c =
    let seen = object_seen _ _ _ c.in-Object.is c.deref-member-items.ensures.value in
    sym (ap (λ j. are_blobs (data_of j)) seen ∙ none_left c.loop-member.invariant c.loop-member-test.false)
