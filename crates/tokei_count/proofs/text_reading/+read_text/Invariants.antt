use Rattle.std.proofs.Common.{◌≡◌, ◌+◌, ◌*◌, map, ◌-◌, ◌≤◌, length, drop}
use Rattle.tokei_notebook.specs.Cells.{cell_of}
use Rattle.tokei_count.specs.NotebookCells.{cell_block, cell_blocks}
use Rattle.tokei_table_row.specs.Bytes.{line_len}
use Rattle.tokei_count.specs.Languages.{languages_of}
use Rattle.tokei_count.specs.Gathered.{gathered}
use Rattle.tokei_count.specs.PlainReading.{child_reading}
use Rattle.tokei_parts.specs.Glanced.{Knows}
use Rattle.tokei_parts.specs.ReadingOf.{openers_in}
use Rattle.tokei_count.specs.Steps.{sum_over, child_steps, capped}
use Rattle.tokei_count.specs.UnderWay.{IsUnderWay}
use Rattle.tokei_stats.specs.Seen.{blobs_of, entries_of}
use Rattle.tokei_stats.specs.Statistics.Blobs.{none}
use Rattle.tokei_count.proofs.text_reading.+read_text.Given as goal

abbrev pub invariant-read_text-loop-so_far : goal.invariant-read_text-loop-so_far
invariant-read_text-loop-so_far l = record {
  under_way : IsUnderWay l.reading l.so_far;
  line : l.so_far.start ≤ l.end → l.end ≡ l.so_far.start + line_len (drop l.so_far.start l.text);
  known : Knows (openers_in l.reading) l.text l.so_far.start l.next;
}

abbrev pub decreases-read_text-loop-so_far : goal.decreases-read_text-loop-so_far
decreases-read_text-loop-so_far l = length l.text - l.so_far.start

abbrev pub decreases-read_text : goal.decreases-read_text
decreases-read_text l = 3 * l.levels + 2

abbrev pub decreases-read_walked : goal.decreases-read_walked
decreases-read_walked l = 3 * l.reading.now.levels + 1

abbrev pub decreases-read_child : goal.decreases-read_child
decreases-read_child l = 3 * l.reading.now.levels

abbrev pub decreases-read_notebook : goal.decreases-read_notebook
decreases-read_notebook l = 3 * l.levels

-- the cells read so far and those that are left are all
abbrev pub invariant-read_notebook-loop-cell : goal.invariant-read_notebook-loop-cell
invariant-read_notebook-loop-cell l = record {
  cells : gathered (child_reading (languages_of l.reader.table.now) l.reader.docs_are_comments l.levels) (blobs_of (entries_of l.blobs.entries))
      (map cell_block (map cell_of (drop l.cell-index l.cell-items)))
      ≡ gathered (child_reading (languages_of l.reader.table.now) l.reader.docs_are_comments l.levels) none (cell_blocks l.reader.table.now l.fn.language l.text);
  inner : capped (l.steps + sum_over (child_steps l.reader.skips (languages_of l.reader.table.now) l.levels)
      (map cell_block (map cell_of (drop l.cell-index l.cell-items))))
      ≡ capped (sum_over (child_steps l.reader.skips (languages_of l.reader.table.now) l.levels)
      (cell_blocks l.reader.table.now l.fn.language l.text));
  small : l.steps ≡ capped l.steps;
}
