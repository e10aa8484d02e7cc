-- A text that is under way: what was read of it and what is left are the whole.
use Rattle.std.specs.Prelude.{◌≡◌, ℕ, ◌+◌, ◌<◌, ◌≤◌, true, false, List, [], None, drop, length}
use Rattle.tokei_table.specs.FirstOpener.{first_opener}
use Rattle.tokei_table.specs.Openers.{openers}
use Rattle.tokei_table.specs.Tokens.{has_tokens}
use Rattle.tokei_parts.specs.Items.{Block}
use Rattle.tokei_count.specs.Languages.{is_notebook}
use Rattle.tokei_count.specs.Languages.{languages_of}
use Rattle.tokei_count.specs.Gathered.{gathered, shares}
use Rattle.tokei_count.specs.PlainReading.{child_reading}
use Rattle.tokei_parts.specs.Progress.{counts_left, children_left, steps_left, IsClosable, IsPart}
use Rattle.tokei_parts.specs.ReadingOf.{row_in, blocks_of}
use Rattle.tokei_parts.specs.Seen.{chain_of}
use Rattle.tokei_count.specs.Steps.{sum_over, child_steps, capped}
use Rattle.tokei_stats.specs.Seen.{sums_of, blobs_of, entries_of}
use Rattle.tokei_stats.specs.Statistics.{Counts, Statistics, Blobs, plus, lines_of}
use Rattle.tokei_stats.specs.Statistics.Blobs.{none}
use Rattle.tokei_count.specs.declared.reader.Reader.{Reader}
use Rattle.tokei_parts.specs.declared.reading.Reading.{Reading}
use Rattle.tokei_count.specs.declared.text_reading.ReadSoFar.{ReadSoFar}

-- the text is read as the reader says
pub record IsReadBy (reader : Reader) (reading : Reading) : Type 0 where
  pub table : reading.table.now ≡ reader.table.now
  pub docs_are_comments : reading.docs_are_comments ≡ reader.docs_are_comments
  pub skips : reading.skips ≡ reader.skips

-- the statistics of a child of the text
abbrev pub reading_inside : Reading → Block → Statistics
reading_inside reading = child_reading (languages_of reading.table.now) reading.docs_are_comments
    reading.levels

-- the steps of a child of the text
abbrev pub steps_inside : Reading → Block → ℕ
steps_inside reading = child_steps reading.skips (languages_of reading.table.now) reading.levels

-- what is left of the text
abbrev pub ahead : Reading → ReadSoFar → List ℕ
ahead reading so_far = drop so_far.start reading.text.now

-- the children of the text
abbrev pub all_children : Reading → List Block
all_children reading = children_left (row_in reading) (blocks_of reading)
    (length reading.text.now) [] reading.text.now

-- the children of what is left of the text
abbrev pub children_ahead : Reading → ReadSoFar → List Block
children_ahead reading so_far =
    children_left (row_in reading) (blocks_of reading) so_far.behind_child
    (chain_of so_far.stack.items) (ahead reading so_far)

-- the counts of the text, with what its children add to them
abbrev pub all_counts : Reading → Counts
all_counts reading =
    plus
    (counts_left (row_in reading) (blocks_of reading) (length reading.text.now)
    reading.docs_are_comments [] reading.text.now)
    (shares (all_children reading))

-- the counts of what is left of the text, with what its children add to them
abbrev pub counts_ahead : Reading → ReadSoFar → Counts
counts_ahead reading so_far =
    plus
    (counts_left (row_in reading) (blocks_of reading) so_far.behind_child reading.docs_are_comments
    (chain_of so_far.stack.items) (ahead reading so_far))
    (shares (children_ahead reading so_far))

-- the steps of the text itself, one for each child with them, and of what is left of it, for the
-- reading at hand
abbrev pub all_steps : Reading → ℕ
all_steps reading = steps_left (row_in reading) (blocks_of reading) (length reading.text.now)
    reading.skips [] reading.text.now + length (all_children reading)

-- the steps of what is left of the text, one for each child with them
abbrev pub steps_ahead : Reading → ReadSoFar → ℕ
steps_ahead reading so_far =
    steps_left (row_in reading) (blocks_of reading) so_far.behind_child reading.skips
    (chain_of so_far.stack.items) (ahead reading so_far)
    + length (children_ahead reading so_far)

-- the blobs so far with those of the children
abbrev pub blobs_with : Reading → Blobs → List Block → Blobs
blobs_with reading = gathered (reading_inside reading)

-- The next part of the text, which is no notebook, begins where `so_far` says. In a text without
-- opener that is read with skipping, each line so far was skipped.
pub record IsUnderWay (reading : Reading) (so_far : ReadSoFar) : Type 0 where
  pub lines : is_notebook (row_in reading) ≡ false
  pub tokens : has_tokens (row_in reading) ≡ true
  pub closable : IsClosable (chain_of so_far.stack.items)
  pub within : so_far.start ≤ length reading.text.now
  pub part : so_far.start < length reading.text.now
      → IsPart reading.text.now so_far.behind_child so_far.start so_far.start
  pub searched : so_far.search ≡ reading.text.now
  pub counts : plus (sums_of so_far.own) (counts_ahead reading so_far) ≡ all_counts reading
  pub kids : blobs_with reading (blobs_of (entries_of so_far.blobs.entries))
      (children_ahead reading so_far)
      ≡ blobs_with reading none (all_children reading)
  pub few : so_far.own_steps ≤ so_far.start
  pub steps : so_far.own_steps + steps_ahead reading so_far ≡ all_steps reading
  pub inner : capped (so_far.inner_steps + sum_over (steps_inside reading)
      (children_ahead reading so_far))
      ≡ capped (sum_over (steps_inside reading) (all_children reading))
  pub quiet : reading.skips ≡ true → first_opener (openers (row_in reading)) reading.text.now ≡ None
      → (chain_of so_far.stack.items ≡ []) × (lines_of (sums_of so_far.own) ≤ so_far.start)
