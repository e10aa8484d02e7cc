use Rattle.tokei_stats.proofs.Members.{with_counts}
use Rattle.tokei_stats.proofs.stats.CodeStats.set_counts.Goals as goal

pub returns : goal.returns
returns c = with_counts c.args.self.now c.args.counts
