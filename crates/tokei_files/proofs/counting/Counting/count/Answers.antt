-- What is counted is the content, decoded.
use Rattle.std.proofs.Common.{◌≡◌, sym, subst, rules, IfOk}
use Rattle.tokei_bytes.specs.Decoding.{decoded}
use Rattle.tokei_count.specs.Seen.{docs_of}
use Rattle.tokei_stats.specs.Overflow.{Fits}
use Rattle.tokei_stats.specs.Seen.{stats_of}
use Rattle.tokei_files.specs.ContentStatistics.{stats_in, stats_of_text}
use Rattle.tokei_files.proofs.counting.Counting.count.Goals as goal

pub returns-in-Some-clause-stats : goal.returns-in-Some-clause-stats
unfolding stats_in
returns-in-Some-clause-stats c =
    let text : c.deref.result.now ≡ decoded c.args.content.now = search rules in
    subst (λ t. IfOk c.count_text.result (λ s. stats_of s ≡ stats_of_text c.args.self.now.counter.now (docs_of c.args.self.now.config) c.args.language t)) text c.count_text.ensures.stats

pub returns-in-Some-clause-overflow : goal.returns-in-Some-clause-overflow
unfolding stats_in
returns-in-Some-clause-overflow c = λ q fits.
    let text : c.deref.result.now ≡ decoded c.args.content.now = search rules in
    c.count_text.ensures.overflow q (subst (λ t. Fits (stats_of_text c.args.self.now.counter.now (docs_of c.args.self.now.config) c.args.language t)) (sym text) fits)

pub returns-in-None-clause-stats : goal.returns-in-None-clause-stats
unfolding stats_in
returns-in-None-clause-stats c =
    let text : decoded c.args.content.now ≡ c.args.content.now = search rules in
    subst (λ t. IfOk c.count_text-in-None.result
    (λ s. stats_of s ≡ stats_of_text c.args.self.now.counter.now (docs_of c.args.self.now.config) c.args.language t))
    (sym text) c.count_text-in-None.ensures.stats

pub returns-in-None-clause-overflow : goal.returns-in-None-clause-overflow
unfolding stats_in
returns-in-None-clause-overflow c = λ q fits.
    let text : decoded c.args.content.now ≡ c.args.content.now = search rules in
    c.count_text-in-None.ensures.overflow q (subst (λ t. Fits (stats_of_text c.args.self.now.counter.now (docs_of c.args.self.now.config) c.args.language t)) text fits)
