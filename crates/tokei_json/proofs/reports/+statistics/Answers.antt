use Rattle.std.proofs.Common.{◌≡◌, codes, sym, ap, ap₂, ◌∙◌}
use Rattle.serde_json.proofs.Views.{view-Object}
use Rattle.serde_json.specs.Data.{no_members, object, put}
use Rattle.serde_json.specs.View.{members_view}
use Rattle.tokei_json.specs.CountedObjects.{count_members}
use Rattle.tokei_languages.specs.Names.{name_in}
use Rattle.tokei_json.specs.ReportData.{blobs_data, statistics_data}
use Rattle.tokei_stats.specs.Seen.{blobs_of, entries_of, stats_of, stats_step, sums_of}
use Rattle.tokei_stats.specs.Statistics.{Counts, Statistics, own}
use Rattle.tokei_stats.specs.Statistics.Statistics.{node}
use Rattle.tokei_stats.specs.declared.stats.CodeStats.{fold_out-CodeStats, out-CodeStats}
use Rattle.tokei_json.proofs.Made.{made_put}
use Rattle.tokei_json.proofs.reports.+statistics.Goals as goal

pub blobs_value-loop-language-preserved : goal.blobs_value-loop-language-preserved
blobs_value-loop-language-preserved t c =
    let l = c.loop-language in
    let rows = c.args.table.now in
    let left = c.next.new.self in
    let put_here = made_put c.statistics_value-value.result (name_in rows c.in-Some.language.now) (statistics_data rows (stats_of c.in-Some.stats.now))
    (members_view l.members.entries) (members_view c.put_named.new.members.entries)
    c.statistics_value-value.ensures c.in_ok-put_named.ensures in
    l.invariant
    ∙ ap (λ es. blobs_data rows (blobs_of (entries_of es)) (members_view l.members.entries)) c.in-Some.ensures.steps
    ∙ ap (blobs_data rows (blobs_of (entries_of left))) (sym put_here)

pub blobs_value-loop-language-init : goal.blobs_value-loop-language-init
blobs_value-loop-language-init t c =
    let rows = c.args.table.now in
    ap (λ es. blobs_data rows (blobs_of (entries_of es)) no_members) (sym c.into_iter-language-iterator.ensures.into_iter_gives.0)
    ∙ ap (λ es. blobs_data rows (blobs_of (entries_of c.into_iter-language-iterator.result)) (members_view es)) (sym c.new-members.ensures.empty)

pub blobs_value-returns : goal.blobs_value-returns
blobs_value-returns t c =
    let rows = c.args.table.now in
    let l = c.loop-language in
    sym (l.invariant ∙ ap (λ es. blobs_data rows (blobs_of (entries_of es)) (members_view l.members.entries)) c.in-None.ensures.steps.0)

pub statistics_value-returns : goal.statistics_value-returns
statistics_value-returns t c =
    let rows = c.args.table.now in
    let s = out-CodeStats c.args.stats.now in
    let n : Counts = record { blanks = s.blanks; code = s.code; comments = s.comments } in
    let seen : stats_of c.args.stats.now ≡ node n (blobs_of (entries_of s.blobs.entries)) = fold_out-CodeStats Statistics stats_step c.args.stats.now in
    let counts : sums_of c.own_counts.result ≡ n = c.own_counts.ensures ∙ ap own seen in
    view-Object c.put.new.map
    ∙ ap object (c.in_ok-put.ensures.ok
    ∙ ap₂ (put (codes "blobs")) (view-Object c.in_ok-blobs.blobs ∙ ap object c.in_ok-blobs.ensures) (c.in_ok-members.ensures ∙ ap count_members counts))
    ∙ sym (ap (statistics_data rows) seen)
