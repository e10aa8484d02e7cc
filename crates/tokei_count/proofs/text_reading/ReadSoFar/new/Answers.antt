use Rattle.std.proofs.Common.{rules, ◌≡◌, ◌+◌, ◌≤◌, List, [], length, refl, sym, subst, ap, ◌∙◌, arith}
use Rattle.tokei_stats.specs.Seen.{blobs_of, entries_of}
use Rattle.tokei_stats.specs.Statistics.{Counts, plus, lines_of, no_lines}
use Rattle.tokei_stats.specs.Statistics.Blobs.{none}
use Rattle.tokei_stats.proofs.SumLaws.{plus_commutes, plus_none}
use Rattle.tokei_parts.specs.Items.{Block}
use Rattle.tokei_parts.specs.Modes.{Chain}
use Rattle.tokei_count.specs.Gathered.{shares}
use Rattle.tokei_parts.specs.Progress.{IsClosable, counts_left, children_left, steps_left}
use Rattle.tokei_parts.specs.ReadingOf.{row_in, blocks_of}
use Rattle.tokei_parts.specs.Seen.{chain_of}
use Rattle.tokei_count.specs.Steps.{sum_over, capped}
use Rattle.tokei_count.specs.UnderWay.{steps_inside, blobs_with, all_counts, all_children, all_steps}
use Rattle.tokei_parts.specs.declared.reading.Reading.{Reading}
use Rattle.tokei_parts.proofs.PartFronts.{part_first}
use Rattle.tokei_count.proofs.text_reading.ReadSoFar.new.Goals as goal

pub returns-clause-under_way : goal.returns-clause-under_way
returns-clause-under_way c =
    let r : Reading = c.args.reading.now in
    let kids : Chain → List Block = λ (k : Chain). children_left (row_in r) (blocks_of r) (length r.text.now) k r.text.now in
    let counts : Chain → Counts = λ (k : Chain).
    plus (counts_left (row_in r) (blocks_of r) (length r.text.now) r.docs_are_comments k r.text.now) (shares (kids k)) in
    let none_open : chain_of c.new-3.result.items ≡ [] = ap chain_of c.new-3.ensures.items in
    let none_yet : 0 + sum_over (steps_inside r) (all_children r) ≡ sum_over (steps_inside r) (all_children r) = omega arith in
    record {
      lines = c.requires.lines;
      tokens = c.requires.tokens;
      closable = subst IsClosable (sym none_open) (search rules);
      within = omega arith;
      part = λ some. part_first r.text.now;
      searched = c.new-4.ensures;
      counts =
          subst (λ (m : Counts). plus m (counts (chain_of c.new-3.result.items)) ≡ all_counts r) (sym c.new.ensures)
          (subst (λ (k : Chain). plus no_lines (counts k) ≡ all_counts r) (sym none_open)
          (plus_commutes no_lines (all_counts r) ∙ plus_none (all_counts r)));
      kids =
          subst (λ es. blobs_with r (blobs_of (entries_of es)) (kids (chain_of c.new-3.result.items))
          ≡ blobs_with r none (all_children r)) (sym c.new-2.ensures.empty)
          (subst (λ (k : Chain). blobs_with r none (kids k) ≡ blobs_with r none (all_children r)) (sym none_open) refl);
      few = omega arith;
      steps =
          subst (λ (k : Chain). 0 + (steps_left (row_in r) (blocks_of r) (length r.text.now) r.skips k r.text.now + length (kids k))
          ≡ all_steps r) (sym none_open) (omega arith);
      inner =
          subst (λ (k : Chain). capped (0 + sum_over (steps_inside r) (kids k))
          ≡ capped (sum_over (steps_inside r) (all_children r))) (sym none_open) (ap capped none_yet);
      quiet = λ skips without. (none_open, subst (λ (m : Counts). lines_of m ≤ 0) (sym c.new.ensures) (omega arith));
    }
