use Rattle.std.proofs.Common.{◌+◌, refl, sym, ap, ◌∙◌, subst, drop, rules, bytes_eq, codes}
use Rattle.json.specs.Json as json
use Rattle.json.specs.Value.{members_view, value_view}
use Rattle.json.specs.declared.value.Value.{the_lemmas}
use Rattle.tokei_earlier.specs.ReadReports.{blobs_in, counts_in, put_blob, statistics_in, with_blobs}
use Rattle.tokei_json.specs.LanguageMaps.{language_named}
use Rattle.tokei_json_tree.specs.Ordered.{IsOrdered}
use Rattle.tokei_json_tree.specs.TreeData.{data_of, members_data}
use Rattle.tokei_stats.specs.Seen.{blobs_of, entries_of, stats_of}
use Rattle.tokei_stats.specs.Statistics.Statistics.{node}
use Rattle.tokei_json_tree.proofs.Left.{found, from, none_left, object_seen, skipped}
use Rattle.tokei_earlier.proofs.reading.+statistics.Goals as goal

pub statistics_in-loop-member-init : goal.statistics_in-loop-member-init
statistics_in-loop-member-init t c =
    record { same = refl; ordered = (subst IsOrdered (object_seen _ _ _ c.in-Object.is c.deref-member-items.ensures.value) c.requires).1 }

pub statistics_in-blobs_in-requires : goal.statistics_in-blobs_in-requires
statistics_in-blobs_in-requires t c =
    (search (rules, the_lemmas), (from c.loop-member.invariant c.member-item.result c.loop-member-test.true c.member-item.is).ordered.0)

pub statistics_in-loop-member-preserved : goal.statistics_in-loop-member-preserved
statistics_in-loop-member-preserved t c =
    let x = c.member-item.result in
    let n = from c.loop-member.invariant x c.loop-member-test.true c.member-item.is in
    skipped n (bytes_eq x.0.now (codes "blobs")) (blobs_in c.args.table.now (data_of (value_view x.1))) refl (sym c.eq.ensures ∙ c.if-eq.false) n.ordered.1

pub statistics_in-returns-then-eq : goal.statistics_in-returns-then-eq
statistics_in-returns-then-eq t c =
    let rows = c.args.table.now in
    let x = c.member-item.result in
    let read = c.in_ok-blobs-in-Object in
    let n = from c.loop-member.invariant x c.loop-member-test.true c.member-item.is in
    let seen = object_seen _ _ c.deref-member-items.result.now c.in-Object.is c.deref-member-items.ensures.value in
    let blobs = read.ensures ∙ sym (found n (bytes_eq x.0.now (codes "blobs")) (blobs_in rows (data_of (value_view x.1))) refl (sym c.eq.ensures ∙ c.if-eq.true)) in
    c.assembled.ensures
    ∙ ap (λ k. node k (blobs_of (entries_of read.blobs.entries))) (c.counts_in.ensures ∙ ap (λ j. counts_in (data_of j)) seen)
    ∙ ap (λ bs. node (counts_in (data_of (json.object (members_view c.deref-member-items.result.now)))) bs) blobs
    ∙ sym (ap (λ j. statistics_in rows (data_of j)) seen)

pub statistics_in-returns-after-loop-member : goal.statistics_in-returns-after-loop-member
statistics_in-returns-after-loop-member t c =
    let rows = c.args.table.now in
    let seen = object_seen _ _ c.deref-member-items.result.now c.in-Object.is c.deref-member-items.ensures.value in
    let blobs = ap (λ es. blobs_of (entries_of es)) c.new.ensures.empty ∙ sym (none_left c.loop-member.invariant c.loop-member-test.false) in
    c.assembled-in-Object.ensures
    ∙ ap (λ k. node k (blobs_of (entries_of c.new.result.entries))) (c.counts_in-in-Object.ensures ∙ ap (λ j. counts_in (data_of j)) seen)
    ∙ ap (λ bs. node (counts_in (data_of (json.object (members_view c.deref-member-items.result.now)))) bs) blobs
    ∙ sym (ap (λ j. statistics_in rows (data_of j)) seen)

pub blobs_in-loop-member-init : goal.blobs_in-loop-member-init
blobs_in-loop-member-init t c =
    let xs = c.deref-member-items.result.now in
    record {
      same = ap (λ es. with_blobs c.args.table.now (members_data (members_view xs)) (blobs_of (entries_of es))) (sym c.new-blobs.ensures.empty);
      ordered = (subst IsOrdered (object_seen _ _ xs c.in-Object.is c.deref-member-items.ensures.value) c.requires).1;
    }

pub blobs_in-statistics_in-requires : goal.blobs_in-statistics_in-requires
blobs_in-statistics_in-requires t c =
    (search (rules, the_lemmas), (from c.loop-member.invariant c.member-item.result c.loop-member-test.true c.member-item.is).ordered.0)

pub blobs_in-loop-member-preserved : goal.blobs_in-loop-member-preserved
blobs_in-loop-member-preserved t c =
    let rows = c.args.table.now in
    let x = c.member-item.result in
    let before = blobs_of (entries_of c.loop-member.blobs.entries) in
    let n = from c.loop-member.invariant x c.loop-member-test.true c.member-item.is in
    let behind = members_data (members_view (drop (c.loop-member.member-index + 1) c.deref-member-items.result.now)) in
    let put = c.in_ok-put_blob-in-Object.ensures
    ∙ ap (λ o. put_blob o before (stats_of c.in_ok-stats-in-Object.stats)) c.language.ensures.value
    ∙ ap (λ s. put_blob (language_named rows x.0.now) before s) c.in_ok-stats-in-Object.ensures in
    record { same = n.same ∙ ap (λ bs. with_blobs rows behind bs) (sym put); ordered = n.ordered.1 }

pub blobs_in-returns-after-loop-member : goal.blobs_in-returns-after-loop-member
blobs_in-returns-after-loop-member t c =
    let seen = object_seen _ _ _ c.in-Object.is c.deref-member-items.ensures.value in
    sym (ap (λ j. blobs_in c.args.table.now (data_of j)) seen ∙ none_left c.loop-member.invariant c.loop-member-test.false)
