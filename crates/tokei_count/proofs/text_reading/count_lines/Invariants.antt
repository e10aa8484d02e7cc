use Rattle.std.proofs.Common.{ℕ, ◌-◌, ◌≡◌, ◌+◌, ◌<◌, ◌≤◌, true, drop}
use Rattle.std.specs.Prelude.{slice_index}
use Rattle.tokei_table.specs.Bytes.{is_blank, line_len}
use Rattle.tokei_parts.specs.Glance.{opener_place}
use Rattle.tokei_parts.specs.ReadingOf.{openers_in}
use Rattle.tokei_count.specs.UnderWay.{IsUnderWay}
use Rattle.tokei_stats.specs.Seen.{sums_of}
use Rattle.tokei_stats.specs.Statistics.{lines_of}
use Rattle.tokei_count.proofs.UnderWay.{gone_on}
use Rattle.tokei_count.proofs.text_reading.count_lines.Given as goal

abbrev pub invariant-loop-at : goal.invariant-loop-at
invariant-loop-at l = record {
  under_way : IsUnderWay l.reading (gone_on l.so_far l.lines l.at);
  few : l.so_far.start + lines_of (sums_of l.lines) ≤ l.at;
  high : l.at ≤ l.next;
  line : l.end ≡ l.at + line_len (drop l.at l.reading.text.now);
  low : l.at ≤ l.solid;
  blank : (p : ℕ) → l.at ≤ p → p < l.solid → is_blank (slice_index l.reading.text.now p) ≡ true;
  next : l.next ≡ l.at + opener_place (openers_in l.reading) (drop l.at l.reading.text.now);
}

abbrev pub decreases-loop-at : goal.decreases-loop-at
decreases-loop-at l = l.next - l.at
