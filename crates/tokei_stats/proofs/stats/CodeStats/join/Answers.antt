use Rattle.std.proofs.Common.{◌≡◌, ◌∙◌, refl, ap, ap₂, sym, Some, None}
use Rattle.tokei_stats.specs.Statistics.{blobs, plus, add_all}
use Rattle.tokei_stats.specs.Seen.{stats_of}
use Rattle.tokei_stats.proofs.Joining.{counts_fit_there, one_joined}
use Rattle.tokei_stats.proofs.Members.{no_entries, sum_node}
use Rattle.tokei_stats.proofs.SameMembers.{same_node}
use Rattle.tokei_stats.proofs.stats.CodeStats.join.Goals as goal
use Rattle.tokei_stats.proofs.stats.CodeStats.join.Goals.{in-Some-get_mut, in_default-get_mut}

pub add_lines-requires : goal.add_lines-requires
add_lines-requires c = no_entries c.args.other.now (c.if-is_empty.ensures.0 refl)

pub returns-in_err-inner-clause-overflow : goal.returns-in_err-inner-clause-overflow
returns-in_err-inner-clause-overflow c is fits =
    c.in_err-inner.ensures.past
    (counts_fit_there c.args.self.now (stats_of c.args.other.now) _ c.in-Some-get.there.now _ _
    c.in-Some-get.ensures.value c.own_counts-in-Some-get-2.ensures c.in-Some.ensures fits)

pub returns-in-Some-get-clause-ok : goal.returns-in-Some-get-clause-ok
returns-in-Some-get-clause-ok c =
    let now : blobs (stats_of c.match-get_mut.self) ≡ add_all (blobs (stats_of c.args.self.now)) (blobs (stats_of c.args.other.now)) =
    elim c.match-get_mut.branch [
      | in-Some-get_mut w ↦ ap (λ s. blobs (stats_of s)) w.self-is
          ∙ one_joined c.args.self.now (stats_of c.args.other.now) _ w.in-Some-get_mut.there.now c.in-Some-get.there.now w.set_counts.new.self _ _ _ _
          w.in-Some-get_mut.ensures.value c.in-Some-get.ensures.value (c.get_mut.follows.holds w.set_counts.new.self).0 w.in-Some-get_mut.ensures.ordered
          w.set_counts.ensures c.in_ok-inner.ensures.ok c.own_counts-in-Some-get-2.ensures c.in-Some.ensures
      | in_default-get_mut w ↦ absurd (let bad : Some c.in-Some-get.there.now ≡ None = c.in-Some-get.ensures.value ∙ sym w.in_default-get_mut.ensures.value in cc)
    ] in
    c.set_counts-in-Some-get.ensures
    ∙ same_node _ _ _ _ (c.in_ok-own.ensures.ok ∙ ap₂ plus c.own_counts.ensures c.own_counts-in-Some-get.ensures) now
    ∙ sum_node (stats_of c.args.self.now) (stats_of c.args.other.now)
