use Rattle.std.proofs.Common.{ap, ap₂, sym, ◌∙◌}
use Rattle.tokei_stats.specs.Statistics.{blobs, plus, add_all}
use Rattle.tokei_stats.specs.Seen.{stats_of}
use Rattle.tokei_stats.proofs.Members.{sum_node}
use Rattle.tokei_stats.proofs.SameMembers.{same_node}
use Rattle.tokei_stats.proofs.stats.CodeStats.add_lines.Goals as goal

pub returns-clause-ok : goal.returns-clause-ok
returns-clause-ok c =
    c.set_counts.ensures
    ∙ same_node _ _ _ _ (c.in_ok-both.ensures.ok ∙ ap₂ plus c.own_counts.ensures c.own_counts-2.ensures)
    (ap (add_all (blobs (stats_of c.args.self.now))) (sym c.requires))
    ∙ sum_node (stats_of c.args.self.now) (stats_of c.args.other.now)
