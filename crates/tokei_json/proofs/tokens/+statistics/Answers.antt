use Rattle.std.proofs.Common.{◌≡◌, ◌+◌, ◌*◌, ◌<◌, ◌≤◌, [], codes, sym, ap, ◌∙◌, subst, arith}
use Rattle.std.proofs.lemmas.Result.{on_ok_weaker}
use Rattle.std.specs.List.{AllByRecursion}
use Rattle.std.specs.Map.{values_of}
use Rattle.serde_json.specs.Data.{object, no_members, member}
use Rattle.tokei_json.specs.ReportData.{statistics_data, blobs_data}
use Rattle.tokei_json.specs.Tokens.{IsWritten, members_by, named}
use Rattle.tokei_json.proofs.Measured.{named_within, AreWithin, AreWithin-seen}
use Rattle.tokei_json.proofs.Naming.{now_of, seen_by, ascend, named_members, named_blobs}
use Rattle.tokei_json.proofs.Objects.{statistics_written}
use Rattle.tokei_json.proofs.Writing.{lacks_all, lacks_fewer, member_of, object_written, LacksMembers}
use Rattle.tokei_stats.proofs.stats.CodeStats.TheLaws.{the_size}
use Rattle.tokei_stats.specs.Seen.{blobs_of, entries_of, stats_of, stats_step}
use Rattle.tokei_stats.specs.Statistics.{Counts, Statistics}
use Rattle.tokei_stats.specs.Statistics.Statistics.{node}
use Rattle.tokei_stats.specs.declared.stats.CodeStats.TheFolds.{fold_out-CodeStats}
use Rattle.tokei_stats.specs.declared.stats.CodeStats.{CodeStats, out-CodeStats}
use Rattle.tokei_json.proofs.tokens.+statistics.Goals as goal
use denote.Param.Weighed.{most}

pub write_statistics-returns : goal.write_statistics-returns
write_statistics-returns t c =
    let rows = c.args.table.now in
    let s = out-CodeStats c.args.stats.now in
    let n : Counts = record { blanks = s.blanks; code = s.code; comments = s.comments } in
    let blobs = object (blobs_data rows (blobs_of (entries_of s.blobs.entries)) no_members) in
    let w1 = c.write_count.new.out in
    let w2 = c.write_blobs.new.out in
    let first = c.key.new.self in
    let m2 = member_of (codes "blobs") blobs w1 c.key-2.new.self w2 c.in_ok-key-2.ensures.ok c.in_ok-key-2.ensures.room.0 c.in_ok-write_blobs.ensures in
    let seen : stats_of c.args.stats.now ≡ node n (blobs_of (entries_of s.blobs.entries)) = fold_out-CodeStats Statistics stats_step c.args.stats.now in
    on_ok_weaker c.end_object.result (λ e.
    member_of c.args.name.now (statistics_data rows (stats_of c.args.stats.now)) c.args.out.now first c.end_object.new.self
    c.in_ok-key.ensures.ok c.in_ok-key.ensures.room.0
    (subst (λ v. IsWritten (statistics_data rows v) first c.end_object.new.self) (sym seen)
    (statistics_written n blobs first c.begin_object.new.self w1 w2 c.write_count-2.new.out c.write_count-3.new.out c.end_object.new.self
    (record { tokens = c.in_ok-begin_object.ensures.ok; before = c.in_ok-begin_object.ensures.room.0 })
    c.in_ok-write_count.ensures m2 c.in_ok-write_count-2.ensures c.in_ok-write_count-3.ensures
    (record { tokens = e; before = c.end_object.ensures.room.0 })))) c.end_object.ensures.ok

pub write_blobs-loop-name-init : goal.write_blobs-loop-name-init
write_blobs-loop-name-init t c =
    let rows = c.args.table.now in
    let es = c.args.blobs.now.entries in
    let all : seen_by now_of c.in_ok-members.members.entries ≡ named rows es [] = c.in_ok-members.ensures ∙ ap (λ fs. named rows fs []) c.iter.ensures.rest in
    let begun : c.into_iter-name-iterator.result ≡ c.in_ok-members.members.entries = c.into_iter-name-iterator.ensures.into_iter_gives.0 in
    record {
      written = lacks_all _ _;
      within =
          subst (λ fs. AllByRecursion (λ e. the_size e.1.now ≤ most the_size (values_of es)) fs) (sym begun)
          (AreWithin-seen the_size (most the_size (values_of es)) c.in_ok-members.members.entries
          (subst (AreWithin the_size (most the_size (values_of es))) (sym all) (named_within the_size (most the_size (values_of es)) rows es [] (omega arith) tt)));
    }

pub write_blobs-write_statistics-requires : goal.write_blobs-write_statistics-requires
write_blobs-write_statistics-requires t c =
    let bound = most the_size (values_of c.args.blobs.now.entries) in
    let small : the_size c.in-Some.stats.now.now ≤ bound =
    (subst (λ fs. AllByRecursion (λ e. the_size e.1.now ≤ bound) fs) c.in-Some.ensures.steps c.loop-name.invariant.within).0 in
    let whole : 2 * bound + 1 ≡ t = c.decreases in
    let less : 2 * the_size c.in-Some.stats.now.now + 0 < t = omega (arith, whole, small) in
    (less, tt)

pub write_blobs-loop-name-preserved : goal.write_blobs-loop-name-preserved
write_blobs-loop-name-preserved t c =
    let rows = c.args.table.now in
    let l = c.loop-name in
    let bound = most the_size (values_of c.args.blobs.now.entries) in
    let f = λ (s : CodeStats). statistics_data rows (stats_of s) in
    let d = statistics_data rows (stats_of c.in-Some.stats.now.now) in
    let all = members_by f (seen_by now_of c.into_iter-name-iterator.result) in
    let left : LacksMembers all (member c.in-Some.name.now.now d (members_by f (seen_by now_of c.next.new.self))) c.begin_object.new.self l.out =
    subst (λ fs. LacksMembers all (members_by f (seen_by now_of fs)) c.begin_object.new.self l.out) c.in-Some.ensures.steps l.invariant.written in
    record {
      written = lacks_fewer all c.in-Some.name.now.now d (members_by f (seen_by now_of c.next.new.self)) c.begin_object.new.self l.out c.write_statistics.new.out left
          c.in_ok-write_statistics.ensures;
      within = (subst (λ fs. AllByRecursion (λ e. the_size e.1.now ≤ bound) fs) c.in-Some.ensures.steps l.invariant.within).1;
    }

pub write_blobs-returns : goal.write_blobs-returns
write_blobs-returns t c =
    let rows = c.args.table.now in
    let l = c.loop-name in
    let es = c.args.blobs.now.entries in
    let f = λ (s : CodeStats). statistics_data rows (stats_of s) in
    let entries = c.in_ok-members.members.entries in
    let all = members_by f (seen_by now_of entries) in
    let begun : c.into_iter-name-iterator.result ≡ entries = c.into_iter-name-iterator.ensures.into_iter_gives.0 in
    let left : LacksMembers all no_members c.begin_object.new.self l.out =
    subst (λ fs. LacksMembers all (members_by f (seen_by now_of fs)) c.begin_object.new.self l.out) c.in-None.ensures.steps.0
    (subst (λ fs. LacksMembers (members_by f (seen_by now_of fs)) (members_by f (seen_by now_of l.name-iterator)) c.begin_object.new.self l.out) begun l.invariant.written) in
    let same : all ≡ blobs_data rows (blobs_of (entries_of es)) no_members =
    ap (members_by f) (c.in_ok-members.ensures ∙ ap (λ fs. named rows fs []) c.iter.ensures.rest)
    ∙ named_members rows stats_of (statistics_data rows) es [] ∙ sym (named_blobs rows (entries_of es) no_members) in
    on_ok_weaker c.end_object.result (λ e.
    subst (λ ms. IsWritten (object ms) c.args.out.now c.end_object.new.self) same
    (object_written all c.args.out.now c.begin_object.new.self l.out c.end_object.new.self (ascend now_of f entries c.into_iter-name-iterator.ensures.into_iter_gives.5)
    c.in_ok-begin_object.ensures.ok c.in_ok-begin_object.ensures.room.0 left e c.end_object.ensures.room.0)) c.end_object.ensures.ok
