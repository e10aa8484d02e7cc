use Rattle.std.proofs.Common.{◌∙◌}
use Rattle.tokei_count.proofs.Refusals.{answered}
use Rattle.tokei_count.proofs.Skipping.{goes_on}
use Rattle.tokei_count.proofs.text_reading.skip_within.Goals as goal

pub count_within-requires-clause-calm : goal.count_within-requires-clause-calm
count_within-requires-clause-calm c = λ p low high.
    c.calm_end-to.ensures.calm p (goes_on c.args.so_far.now.start c.count_lines_within.new.so_far.start p c.in_ok-count_lines_within.ensures.low low) high

pub returns : goal.returns
returns c =
    let first = c.in_ok-count_lines_within.ensures in
    let e = c.in_ok-count_within.ensures in record {
      under_way = e.under_way;
      low = goes_on c.args.so_far.now.start c.count_lines_within.new.so_far.start c.count_within.new.so_far.start first.low e.low;
      behind = e.high;
      clear = e.clear;
      same = e.same ∙ first.same;
      overflow = λ is fits. answered _ _ is;
    }
