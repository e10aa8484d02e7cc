use denote.Ref.{Bor}
use Rattle.std.specs.Prelude.{if◌then◌else◌}
use Rattle.std.proofs.Common.{◌≡◌, Bool, map, get_or, ◌≤◌, ◌<◌, ◌+◌, ◌-◌, ◌∙◌, ℕ, List, [], ◌∷◌, ap, sym, subst, length, drop, refl, arith}
use Rattle.std.proofs.lemmas.List.{drop_all}
use Rattle.std.proofs.lemmas.Result.{err_from_is_err_and}
use Rattle.tokei_table.specs.Row.{Row}
use Rattle.tokei_table.specs.Bytes.{trim}
use Rattle.tokei_embedding.specs.DocComments.{doc_text}
use Rattle.tokei_notebook.specs.Cells.{cell_of, AreKnown}
use Rattle.tokei_notebook.specs.declared.notebook.Cell.{Cell}
use Rattle.tokei_parts.specs.Items.{Block}
use Rattle.tokei_parts.specs.Matchers.{Matchers}
use Rattle.tokei_count.specs.NotebookCells.{cell_block, cell_blocks}
use Rattle.tokei_table.specs.Tokens.{has_tokens}
use Rattle.tokei_count.specs.Languages.{is_notebook, languages_of}
use Rattle.tokei_count.specs.Gathered.{gathered}
use Rattle.tokei_count.specs.PlainReading.{child_reading}
use Rattle.tokei_parts.specs.Seen.{chain_of, block_of}
use Rattle.tokei_count.specs.Steps.{made_steps, child_steps, capped, sum_over}
use Rattle.tokei_stats.specs.Overflow.{CountsFit, Fits}
use Rattle.tokei_stats.specs.Seen.{sums_of, blobs_of, entries_of, stats_of}
use Rattle.tokei_stats.specs.Statistics.{Counts, Blobs, plus, at, put, joined, sum}
use Rattle.tokei_stats.specs.Statistics.Statistics.{node}
use Rattle.tokei_parts.proofs.LineEnds.{end_later}
use Rattle.tokei_count.specs.UnderWay.{steps_inside}
use Rattle.tokei_count.proofs.ChildReading.{child_by, child_steps_by}
use Rattle.tokei_count.proofs.NotebookReading.{known_at, begun, cells_begun, cells_split, cell_read, cell_fits, cell_blob_fits, cell_reading, cells_whole}
use Rattle.tokei_count.proofs.StepReading.{knows_later, child_steps-is, steps-notebook, steps-no_notebook, capped-left, capped-right, capped_middle, capped-twice, matchers_at, matchers_below}
use Rattle.tokei_count.proofs.TextReading.{reading-no_notebook}
use Rattle.tokei_count.proofs.Refusals.{answered, same_refusal}
use Rattle.tokei_count.proofs.Skipping.{goes_past, less_left, none_left}
use Rattle.tokei_count.proofs.UnderWay.{child_past, child_within, walked_past, first_end, all_read, all_made, unwalked, walked_fits, walked_on, child_deep, child_known, broken_fits, inner_fits, added_fits, broken_on, ends_as}
use Rattle.tokei_count.proofs.text_reading.+read_text.Goals as goal
use Rattle.tokei_count.proofs.text_reading.+read_text.Goals.{read_child-then-child, read_child-else-child}

pub read_notebook-returns-then-levels-eq0-clause-reads : goal.read_notebook-returns-then-levels-eq0-clause-reads
read_notebook-returns-then-levels-eq0-clause-reads t c = c.new-stats.ensures
    ∙ sym (reading-no_notebook c.args.reader.table.now c.args.reader.docs_are_comments c.args.levels c.args.language c.args.text.now
    c.requires.notebook c.if-levels-eq0.true)

pub read_notebook-loop-cell-init : goal.read_notebook-loop-cell-init
read_notebook-loop-cell-init t c = record {
  cells = ap (λ es. gathered (child_reading (languages_of c.args.reader.table.now) c.args.reader.docs_are_comments c.args.levels)
      (blobs_of (entries_of es)) (map cell_block (map cell_of c.as_slice-cell-items.result.now))) c.new-blobs.ensures.empty
      ∙ begun c.args.reader.table.now c.args.reader.docs_are_comments c.args.levels c.args.language c.args.text.now c.as_slice-cell-items.result.now
      (ap (map cell_of) c.as_slice-cell-items.ensures.value ∙ c.in_ok-cells.ensures.value);
  inner =
      let all : 0 + sum_over (child_steps c.args.reader.skips (languages_of c.args.reader.table.now) c.args.levels)
      (map cell_block (map cell_of c.as_slice-cell-items.result.now))
      ≡ sum_over (child_steps c.args.reader.skips (languages_of c.args.reader.table.now) c.args.levels)
      (cell_blocks c.args.reader.table.now c.args.language c.args.text.now) =
      omega (
        arith,
        ap (sum_over (child_steps c.args.reader.skips (languages_of c.args.reader.table.now) c.args.levels))
            (cells_begun c.args.reader.table.now c.args.reader.docs_are_comments c.args.levels c.args.language c.args.text.now
            c.as_slice-cell-items.result.now (ap (map cell_of) c.as_slice-cell-items.ensures.value ∙ c.in_ok-cells.ensures.value)),
      ) in
      ap capped all;
  small = refl;
}

pub read_notebook-read_text-requires : goal.read_notebook-read_text-requires
read_notebook-read_text-requires t c =
    let known : AreKnown (length c.args.reader.table.now) (map cell_of c.as_slice-cell-items.result.now) =
    subst (λ cs. AreKnown (length c.args.reader.table.now) (map cell_of cs)) (sym c.as_slice-cell-items.ensures.value)
    c.in_ok-cells.ensures.known in (
      omega (arith, c.if-levels-eq0.false, c.decreases),
      (
        subst (λ (cell : Cell). cell.language < length c.args.reader.table.now) (sym c.cell-item.is)
            (known_at (length c.args.reader.table.now) c.as_slice-cell-items.result.now c.loop-cell.cell-index c.cell-item.result known
            c.loop-cell-test.true),
        c.requires.indexed,
      ),
    )

pub read_notebook-returns-in_err-read-clause-overflow : goal.read_notebook-returns-in_err-read-clause-overflow
read_notebook-returns-in_err-read-clause-overflow t c =
    let some : 0 < c.args.levels = omega (arith, c.if-levels-eq0.false) in
    let read_is = cell_reading c.args.reader.table.now c.args.reader.docs_are_comments c.args.levels c.args.language c.args.text.now
    (blobs_of (entries_of c.loop-cell.blobs.entries)) c.as_slice-cell-items.result.now c.loop-cell.cell-index c.cell-item.result
    c.loop-cell-test.true c.cell-item.is c.loop-cell.invariant.cells c.deref.result.now c.deref.ensures.value some in
    let p = err_from_is_err_and c.from_residual-in_err-read.result c.from_residual-in_err-read.ensures.1 in
    rw (p.1, p.2) (λ is fits. c.in_err-read.ensures.overflow is
    (subst Fits (sym read_is) (cell_fits c.args.reader.table.now c.args.reader.docs_are_comments c.args.levels c.args.language c.args.text.now
    (blobs_of (entries_of c.loop-cell.blobs.entries)) c.as_slice-cell-items.result.now c.loop-cell.cell-index c.cell-item.result
    c.loop-cell-test.true c.cell-item.is c.loop-cell.invariant.cells c.requires.notebook some fits)))

pub read_notebook-returns-in_err-add_blob-clause-overflow : goal.read_notebook-returns-in_err-add_blob-clause-overflow
read_notebook-returns-in_err-add_blob-clause-overflow t c =
    let some : 0 < c.args.levels = omega (arith, c.if-levels-eq0.false) in
    let read_is = cell_reading c.args.reader.table.now c.args.reader.docs_are_comments c.args.levels c.args.language c.args.text.now
    (blobs_of (entries_of c.loop-cell.blobs.entries)) c.as_slice-cell-items.result.now c.loop-cell.cell-index c.cell-item.result
    c.loop-cell-test.true c.cell-item.is c.loop-cell.invariant.cells c.deref.result.now c.deref.ensures.value some in
    let k : Block = cell_block (cell_of c.cell-item.result) in
    let stats_is : stats_of c.in_ok-read.read.stats ≡ child_reading (languages_of c.args.reader.table.now) c.args.reader.docs_are_comments c.args.levels k = c.in_ok-read.ensures.reads ∙ read_is in
    let p = err_from_is_err_and c.from_residual-in_err-add_blob.result c.from_residual-in_err-add_blob.ensures.1 in
    rw (p.1, p.2) (λ is fits.
    let bs : Blobs = blobs_of (entries_of c.loop-cell.blobs.entries) in
    let fit : Fits (joined (at bs k.language) (λ o. sum o
    (child_reading (languages_of c.args.reader.table.now) c.args.reader.docs_are_comments c.args.levels k))
    (child_reading (languages_of c.args.reader.table.now) c.args.reader.docs_are_comments c.args.levels k)) =
    cell_blob_fits c.args.reader.table.now c.args.reader.docs_are_comments c.args.levels c.args.language c.args.text.now bs
    c.as_slice-cell-items.result.now c.loop-cell.cell-index c.cell-item.result c.loop-cell-test.true c.cell-item.is c.loop-cell.invariant.cells
    c.requires.notebook some fits in
    c.in_err-add_blob.ensures.overflow (same_refusal _ _ is) (subst (λ s. Fits (joined (at bs k.language) (λ o. sum o s) s)) (sym stats_is) fit))

pub read_notebook-loop-cell-preserved : goal.read_notebook-loop-cell-preserved
read_notebook-loop-cell-preserved t c =
    let some : 0 < c.args.levels = omega (arith, c.if-levels-eq0.false) in
    let read_is = cell_reading c.args.reader.table.now c.args.reader.docs_are_comments c.args.levels c.args.language c.args.text.now
    (blobs_of (entries_of c.loop-cell.blobs.entries)) c.as_slice-cell-items.result.now c.loop-cell.cell-index c.cell-item.result
    c.loop-cell-test.true c.cell-item.is c.loop-cell.invariant.cells c.deref.result.now c.deref.ensures.value some in
    let k : Block = cell_block (cell_of c.cell-item.result) in
    let old : Blobs = (blobs_of (entries_of c.loop-cell.blobs.entries)) in
    let stats_is : stats_of c.in_ok-read.read.stats ≡ child_reading (languages_of c.args.reader.table.now) c.args.reader.docs_are_comments c.args.levels k = c.in_ok-read.ensures.reads ∙ read_is in
    let blobs_are : blobs_of (entries_of c.add_blob.new.blobs.entries)
    ≡ put old k.language (joined (at old k.language) (λ s. sum s
    (child_reading (languages_of c.args.reader.table.now) c.args.reader.docs_are_comments c.args.levels k))
    (child_reading (languages_of c.args.reader.table.now) c.args.reader.docs_are_comments c.args.levels k)) =
    c.in_ok-add_blob.ensures.ok ∙ ap (λ s'. put old k.language (joined (at old k.language) (λ s. sum s s') s')) stats_is in
    record {
      cells = ap (λ bs. gathered (child_reading (languages_of c.args.reader.table.now) c.args.reader.docs_are_comments c.args.levels) bs
          (map cell_block (map cell_of (drop (c.loop-cell.cell-index + 1) c.as_slice-cell-items.result.now)))) blobs_are
          ∙ cell_read c.args.reader.table.now c.args.reader.docs_are_comments c.args.levels c.args.language c.args.text.now
          (blobs_of (entries_of c.loop-cell.blobs.entries)) c.as_slice-cell-items.result.now c.loop-cell.cell-index c.cell-item.result
          c.loop-cell-test.true c.cell-item.is c.loop-cell.invariant.cells;
      inner =
          let rest : List Block = map cell_block (map cell_of (drop (c.loop-cell.cell-index + 1) c.as_slice-cell-items.result.now)) in
          let one : ℕ = child_steps c.args.reader.skips (languages_of c.args.reader.table.now) c.args.levels k in
          let source_is : made_steps c.args.reader.skips (languages_of c.args.reader.table.now) (c.args.levels - 1) c.cell-item.result.language
          c.deref.result.now ≡ one = ap (made_steps c.args.reader.skips (languages_of c.args.reader.table.now) (c.args.levels - 1)
          c.cell-item.result.language) c.deref.ensures.value
          ∙ sym (child_steps-is c.args.reader.skips c.args.reader.table.now c.args.levels k some) in
          let steps_are : c.capped_sum-steps.result ≡ capped (c.loop-cell.steps + capped one) = c.capped_sum-steps.ensures
          ∙ ap (λ m. capped (c.loop-cell.steps + m)) (c.in_ok-read.ensures.steps ∙ ap capped source_is) in
          let all : c.loop-cell.steps + one + sum_over (child_steps c.args.reader.skips (languages_of c.args.reader.table.now) c.args.levels) rest
          ≡ c.loop-cell.steps + sum_over (child_steps c.args.reader.skips (languages_of c.args.reader.table.now) c.args.levels) (k ∷ rest) =
          omega arith in
          ap (λ m. capped (m + sum_over (child_steps c.args.reader.skips (languages_of c.args.reader.table.now) c.args.levels) rest)) steps_are
          ∙ capped-left (c.loop-cell.steps + capped one) (sum_over
          (child_steps c.args.reader.skips (languages_of c.args.reader.table.now) c.args.levels) rest)
          ∙ capped_middle c.loop-cell.steps one (sum_over (child_steps c.args.reader.skips (languages_of c.args.reader.table.now) c.args.levels)
          rest) ∙ ap capped all
          ∙ ap (λ ks. capped (c.loop-cell.steps + sum_over (child_steps c.args.reader.skips (languages_of c.args.reader.table.now) c.args.levels) ks))
          (sym (cells_split c.as_slice-cell-items.result.now c.loop-cell.cell-index c.cell-item.result c.loop-cell-test.true c.cell-item.is))
          ∙ c.loop-cell.invariant.inner;
      small = c.capped_sum-steps.ensures ∙ capped-twice (c.loop-cell.steps + c.in_ok-read.read.steps) ∙ sym (ap capped c.capped_sum-steps.ensures);
    }

pub read_notebook-returns-clause-reads : goal.read_notebook-returns-clause-reads
read_notebook-returns-clause-reads t c =
    let some : 0 < c.args.levels = omega (arith, c.if-levels-eq0.false) in
    let at_end : c.loop-cell.cell-index ≡ length c.as_slice-cell-items.result.now = omega (arith, c.loop-cell-test.false, c.loop-cell.auto.cell-index-end) in
    c.assembled-stats.ensures ∙ ap (λ n. node n (blobs_of (entries_of c.loop-cell.blobs.entries))) c.new.ensures
    ∙ cells_whole c.args.reader.table.now c.args.reader.docs_are_comments c.args.levels c.args.language c.args.text.now
    (blobs_of (entries_of c.loop-cell.blobs.entries)) c.as_slice-cell-items.result.now c.loop-cell.cell-index at_end c.requires.notebook some
    c.loop-cell.invariant.cells

pub read_notebook-returns-then-levels-eq0-clause-steps : goal.read_notebook-returns-then-levels-eq0-clause-steps
read_notebook-returns-then-levels-eq0-clause-steps t c =
    sym (ap capped (steps-no_notebook c.args.reader.skips c.args.reader.table.now c.args.levels c.args.language c.args.text.now c.requires.notebook
    c.if-levels-eq0.true))

pub read_notebook-returns-clause-steps : goal.read_notebook-returns-clause-steps
read_notebook-returns-clause-steps t c =
    let some : 0 < c.args.levels = omega (arith, c.if-levels-eq0.false) in
    let at_end : c.loop-cell.cell-index ≡ length c.as_slice-cell-items.result.now = omega (arith, c.loop-cell-test.false, c.loop-cell.auto.cell-index-end) in
    let none_left : map cell_block (map cell_of (drop c.loop-cell.cell-index c.as_slice-cell-items.result.now)) ≡ [] =
    ap (λ cs. map cell_block (map cell_of cs)) (drop_all c.loop-cell.cell-index c.as_slice-cell-items.result.now (omega (arith, at_end))) in
    let bare : c.loop-cell.steps ≡ c.loop-cell.steps + 0 = omega arith in
    c.loop-cell.invariant.small
    ∙ ap capped bare ∙ ap (λ ks. capped (c.loop-cell.steps + sum_over
    (child_steps c.args.reader.skips (languages_of c.args.reader.table.now) c.args.levels) ks)) (sym none_left) ∙ c.loop-cell.invariant.inner
    ∙ sym (ap capped (steps-notebook c.args.reader.skips c.args.reader.table.now c.args.levels c.args.language c.args.text.now c.requires.notebook some))

pub read_text-invariant_of-reading-clause-matched : goal.read_text-invariant_of-reading-clause-matched
read_text-invariant_of-reading-clause-matched t c =
    let d = c.of-matchers.result.now in
    c.of-matchers.ensures d
    ∙ ap (λ (ms : List Matchers). get_or ms c.args.language d) c.requires.indexed
    ∙ matchers_at c.args.reader.table.now c.args.language c.args.language d refl c.requires.known

pub read_text-invariant_of-reading-clause-opens : goal.read_text-invariant_of-reading-clause-opens
read_text-invariant_of-reading-clause-opens t c =
    let d = c.of-matchers.result.now in
    c.family.ensures
    ∙ ap (λ (m : Matchers). m.family)
    (c.of-matchers.ensures d ∙ ap (λ (ms : List Matchers). get_or ms c.args.language d) c.requires.indexed
    ∙ matchers_at c.args.reader.table.now c.args.language c.args.language d refl c.requires.known)

pub read_child-read_text-requires : goal.read_child-read_text-requires
read_child-read_text-requires t c = (
  omega (arith, c.requires.deep, c.decreases),
  (subst (λ (rows : List Row). c.args.child.now.language < length rows) c.requires.reader.table c.requires.known, c.requires.indexed),
)

pub read_text-loop-so_far-init : goal.read_text-loop-so_far-init
read_text-loop-so_far-init t c = record {
  under_way = c.new-so_far.ensures.under_way;
  line = λ low. first_end c.args.text.now c.new-so_far.result.start c.line_len-end.result c.new-so_far.ensures.start c.line_len-end.ensures.value;
  known = λ low. absurd (omega (arith, low));
}

pub read_text-loop-so_far-preserved-in-Continue-branch-2 : goal.read_text-loop-so_far-preserved-in-Continue-branch-2
read_text-loop-so_far-preserved-in-Continue-branch-2 t c =
    let low : c.skip_lines.new.so_far.start ≤ c.read_walked.new.so_far.start = omega (arith, c.in_ok-read_walked.ensures.on) in
    record {
      under_way = c.in_ok-read_walked.ensures.under_way;
      line = λ high. end_later c.args.text.now c.skip_lines.new.so_far.start c.read_walked.new.so_far.start c.in_ok-end.end low c.in_ok-end.ensures.end high;
      known = knows_later _ c.args.text.now c.skip_lines.new.so_far.start c.read_walked.new.so_far.start c.skip_lines.new.next low c.in_ok-end.ensures.known;
    }

pub read_text-loop-so_far-preserved : goal.read_text-loop-so_far-preserved
read_text-loop-so_far-preserved t c = record {
  under_way = c.in_ok-end.ensures.under_way;
  line = λ high. c.in_ok-end.ensures.end;
  known = c.in_ok-end.ensures.known;
}

pub read_text-returns-in_err-read_walked-clause-quiet : goal.read_text-returns-in_err-read_walked-clause-quiet
read_text-returns-in_err-read_walked-clause-quiet t c = λ skipped lines none.
    absurd (unwalked _ _ c.in_ok-end.ensures.under_way skipped none (c.in_ok-end.ensures.walked skipped c.if-so_far-text.true))

pub read_text-returns-clause-reads : goal.read_text-returns-clause-reads
read_text-returns-clause-reads t c = c.assembled-stats.ensures ∙ all_read _ _ c.loop-so_far.invariant.under_way (omega (arith, c.loop-so_far-test.false))

pub read_text-returns-clause-steps : goal.read_text-returns-clause-steps
read_text-returns-clause-steps t c = c.capped_sum-steps.ensures ∙ all_made _ _ c.loop-so_far.invariant.under_way (omega (arith, c.loop-so_far-test.false))

pub read_walked-returns-in_err-add_line-in-Line-clause-overflow : goal.read_walked-returns-in_err-add_line-in-Line-clause-overflow
read_walked-returns-in_err-add_line-in-Line-clause-overflow t c =
    λ is fits. c.in_err-add_line-in-Line.ensures.past
    (walked_fits c.args.reading.now c.args.so_far.now c.requires.under_way c.in-Line.class c.in-Line.behind c.in_ok-part.part.steps
    c.read_part.new.stack (ends_as c.args.reading.now c.args.so_far.now c.in_ok-part.part.steps (chain_of c.read_part.new.stack.items) _ _ c.in-Line.is c.in_ok-part.ensures.reads) fits)

pub read_walked-returns-in_err-so_far-in-Broken-clause-overflow : goal.read_walked-returns-in_err-so_far-in-Broken-clause-overflow
read_walked-returns-in_err-so_far-in-Broken-clause-overflow t c =
    λ is fits. c.in_err-so_far-in-Broken.ensures.past (subst (λ (m : Counts). CountsFit (plus (sums_of c.args.so_far.now.own) m))
    (sym c.share_of.ensures)
    (broken_fits c.args.reading.now c.args.so_far.now c.requires.under_way c.in-Broken.at c.in_ok-part.part.steps
    (chain_of c.read_part.new.stack.items) (block_of c.read_part.new.found)
    (ends_as c.args.reading.now c.args.so_far.now c.in_ok-part.part.steps (chain_of c.read_part.new.stack.items) _ _ c.in-Broken.is c.in_ok-part.ensures.reads)
    (c.in_ok-part.ensures.found c.in-Broken.at c.in-Broken.is) fits))

pub read_walked-read_child-requires : goal.read_walked-read_child-requires
read_walked-read_child-requires t c = (
  omega (arith, c.decreases),
  (
    c.requires.reader,
    (
      c.requires.indexed,
      (
        child_deep c.args.reading.now c.args.so_far.now c.requires.under_way c.in-Broken.at c.in_ok-part.part.steps
            (chain_of c.read_part.new.stack.items) (block_of c.read_part.new.found)
            (ends_as c.args.reading.now c.args.so_far.now c.in_ok-part.part.steps (chain_of c.read_part.new.stack.items) _ _ c.in-Broken.is c.in_ok-part.ensures.reads)
            (c.in_ok-part.ensures.found c.in-Broken.at c.in-Broken.is),
        child_known c.args.reading.now c.args.so_far.now c.requires.under_way
            c.in-Broken.at c.in_ok-part.part.steps (chain_of c.read_part.new.stack.items) (block_of c.read_part.new.found)
            (ends_as c.args.reading.now c.args.so_far.now c.in_ok-part.part.steps (chain_of c.read_part.new.stack.items) _ _ c.in-Broken.is c.in_ok-part.ensures.reads)
            (c.in_ok-part.ensures.found c.in-Broken.at c.in-Broken.is),
      ),
    ),
  ),
)

pub read_walked-returns-in_err-read_child-in-Broken-clause-overflow : goal.read_walked-returns-in_err-read_child-in-Broken-clause-overflow
read_walked-returns-in_err-read_child-in-Broken-clause-overflow t c =
    let p = err_from_is_err_and c.from_residual-in_err-read_child-in-Broken.result c.from_residual-in_err-read_child-in-Broken.ensures.1 in
    rw (p.1, p.2) (λ is fits.
    c.in_err-read_child-in-Broken.ensures.overflow (same_refusal _ _ is)
    (inner_fits c.args.reading.now c.args.so_far.now c.requires.under_way c.in-Broken.at c.in_ok-part.part.steps
    (chain_of c.read_part.new.stack.items) (block_of c.read_part.new.found)
    (ends_as c.args.reading.now c.args.so_far.now c.in_ok-part.part.steps (chain_of c.read_part.new.stack.items) _ _ c.in-Broken.is c.in_ok-part.ensures.reads)
    (c.in_ok-part.ensures.found c.in-Broken.at c.in-Broken.is) fits)
    (added_fits c.args.reading.now c.args.so_far.now c.requires.under_way c.in-Broken.at c.in_ok-part.part.steps
    (chain_of c.read_part.new.stack.items) (block_of c.read_part.new.found)
    (ends_as c.args.reading.now c.args.so_far.now c.in_ok-part.part.steps (chain_of c.read_part.new.stack.items) _ _ c.in-Broken.is c.in_ok-part.ensures.reads)
    (c.in_ok-part.ensures.found c.in-Broken.at c.in-Broken.is) fits))

pub read_walked-returns-in_ok-add_line-in-Line-clause-under_way : goal.read_walked-returns-in_ok-add_line-in-Line-clause-under_way
read_walked-returns-in_ok-add_line-in-Line-clause-under_way t c =
    walked_on c.args.reading.now c.args.so_far.now c.requires.under_way c.in-Line.class c.in-Line.behind c.in_ok-part.part.steps
    c.read_part.new.stack (ends_as c.args.reading.now c.args.so_far.now c.in_ok-part.part.steps (chain_of c.read_part.new.stack.items) _ _ c.in-Line.is c.in_ok-part.ensures.reads) c.add_line.new.lines
    c.read_part.new.search c.read_part.new.found
    c.in_ok-add_line-in-Line.ensures.ok (c.in_ok-part.ensures.same ∙ c.requires.under_way.searched) c.requires.walked

pub read_walked-returns-in_ok-read_child-in-Broken-clause-under_way : goal.read_walked-returns-in_ok-read_child-in-Broken-clause-under_way
read_walked-returns-in_ok-read_child-in-Broken-clause-under_way t c =
    broken_on c.args.reading.now c.args.so_far.now c.requires.under_way c.in-Broken.at c.in_ok-part.part.steps (chain_of c.read_part.new.stack.items)
    (block_of c.read_part.new.found) (ends_as c.args.reading.now c.args.so_far.now c.in_ok-part.part.steps (chain_of c.read_part.new.stack.items) _ _ c.in-Broken.is c.in_ok-part.ensures.reads)
    (c.in_ok-part.ensures.found c.in-Broken.at c.in-Broken.is) _
    (c.in_ok-so_far-in-Broken.ensures.ok ∙ ap (plus (sums_of c.args.so_far.now.own)) c.share_of.ensures)
    c.in_ok-read_child-in-Broken.ensures.reads
    refl (c.in_ok-read_child-in-Broken.ensures.steps ∙ sym (capped-right c.args.so_far.now.inner_steps (steps_inside c.args.reading.now (block_of c.read_part.new.found))))
    refl refl refl (c.in_ok-part.ensures.same ∙ c.requires.under_way.searched) c.requires.walked

pub read_walked-overflow_sub-so_far : goal.read_walked-overflow_sub-so_far
read_walked-overflow_sub-so_far t c = child_within c.args.reading.now c.args.so_far.now c.requires.under_way c.in-Broken.at c.in_ok-part.part.steps
    (chain_of c.read_part.new.stack.items) (block_of c.read_part.new.found)
    (ends_as c.args.reading.now c.args.so_far.now c.in_ok-part.part.steps (chain_of c.read_part.new.stack.items) _ _ c.in-Broken.is c.in_ok-part.ensures.reads)
    (c.in_ok-part.ensures.found c.in-Broken.at c.in-Broken.is)

pub read_walked-returns-in_ok-read_child-in-Broken-clause-on : goal.read_walked-returns-in_ok-read_child-in-Broken-clause-on
read_walked-returns-in_ok-read_child-in-Broken-clause-on t c = child_past c.args.reading.now c.args.so_far.now c.requires.under_way c.in-Broken.at c.in_ok-part.part.steps
    (chain_of c.read_part.new.stack.items) (block_of c.read_part.new.found)
    (ends_as c.args.reading.now c.args.so_far.now c.in_ok-part.part.steps (chain_of c.read_part.new.stack.items) _ _ c.in-Broken.is c.in_ok-part.ensures.reads)
    (c.in_ok-part.ensures.found c.in-Broken.at c.in-Broken.is)

pub read_walked-returns-in_ok-add_line-in-Line-clause-on : goal.read_walked-returns-in_ok-add_line-in-Line-clause-on
read_walked-returns-in_ok-add_line-in-Line-clause-on t c = walked_past c.args.reading.now c.args.so_far.now c.requires.under_way c.in-Line.class c.in-Line.behind c.in_ok-part.part.steps
    c.read_part.new.stack (ends_as c.args.reading.now c.args.so_far.now c.in_ok-part.part.steps (chain_of c.read_part.new.stack.items) _ _ c.in-Line.is c.in_ok-part.ensures.reads)

pub read_walked-returns-in_ok-read_child-in-Broken-clause-overflow : goal.read_walked-returns-in_ok-read_child-in-Broken-clause-overflow
read_walked-returns-in_ok-read_child-in-Broken-clause-overflow t c = λ is fits. answered _ _ is

pub read_walked-returns-in_ok-add_line-in-Line-clause-overflow : goal.read_walked-returns-in_ok-add_line-in-Line-clause-overflow
read_walked-returns-in_ok-add_line-in-Line-clause-overflow t c = λ is fits. answered _ _ is

pub read_text-returns-clause-overflow : goal.read_text-returns-clause-overflow
read_text-returns-clause-overflow t c = λ is fits. answered _ _ is

pub read_notebook-returns-clause-overflow : goal.read_notebook-returns-clause-overflow
read_notebook-returns-clause-overflow t c = λ is fits. answered _ _ is

pub read_notebook-returns-then-levels-eq0-clause-overflow : goal.read_notebook-returns-then-levels-eq0-clause-overflow
read_notebook-returns-then-levels-eq0-clause-overflow t c = λ is fits. answered _ _ is

pub read_text-skip_lines-requires : goal.read_text-skip_lines-requires
read_text-skip_lines-requires t c = record { under_way = c.loop-so_far.invariant.under_way; known = c.loop-so_far.invariant.known; line = c.loop-so_far.invariant.line }

pub read_text-loop-so_far-smaller-in-Continue-branch-2 : goal.read_text-loop-so_far-smaller-in-Continue-branch-2
read_text-loop-so_far-smaller-in-Continue-branch-2 t c = less_left (length c.args.text.now) c.loop-so_far.so_far.start c.read_walked.new.so_far.start c.loop-so_far-test.true
    (goes_past c.loop-so_far.so_far.start c.skip_lines.new.so_far.start c.read_walked.new.so_far.start c.in_ok-end.ensures.on c.in_ok-read_walked.ensures.on)

pub read_walked-overflow_add-so_far-in-Broken : goal.read_walked-overflow_add-so_far-in-Broken
read_walked-overflow_add-so_far-in-Broken t c =
    let within = child_within c.args.reading.now c.args.so_far.now c.requires.under_way c.in-Broken.at c.in_ok-part.part.steps
    (chain_of c.read_part.new.stack.items) (block_of c.read_part.new.found)
    (ends_as c.args.reading.now c.args.so_far.now c.in_ok-part.part.steps (chain_of c.read_part.new.stack.items) _ _ c.in-Broken.is c.in_ok-part.ensures.reads)
    (c.in_ok-part.ensures.found c.in-Broken.at c.in-Broken.is) in
    omega (arith, within)

pub read_text-read_walked-requires : goal.read_text-read_walked-requires
read_text-read_walked-requires t c = (
  omega (arith, c.decreases),
  (
    record { table = refl; docs_are_comments = refl; skips = refl },
    (
      c.requires.indexed,
      (
        c.in_ok-end.ensures.under_way,
        (c.if-so_far-text.true, (c.in_ok-end.ensures.end, λ skipped. c.in_ok-end.ensures.walked skipped c.if-so_far-text.true)),
      ),
    ),
  ),
)

pub read_child-returns-in_err-read-clause-overflow : goal.read_child-returns-in_err-read-clause-overflow
read_child-returns-in_err-read-clause-overflow t c =
    let r = c.args.reading.now in
    let k : Block = block_of c.args.child.now in
    let inner_is : c.if-child.inner.now ≡ k.contents =
    elim c.if-child.branch [
      | read_child-then-child w ↦
          ap (λ (b : Bor (List ℕ)). b.now) w.inner-is ∙ w.trim-inner.ensures ∙ ap trim (w.deref.ensures.value ∙ c.in_ok-doc.ensures w.if-child.true)
          ∙ ap (λ (b : Bool). if b then trim (doc_text c.args.child.now.contents.now) else c.args.child.now.contents.now) (sym w.if-child.true)
      | read_child-else-child w ↦
          ap (λ (b : Bor (List ℕ)). b.now) w.inner-is
          ∙ ap (λ (b : Bool). if b then trim (doc_text c.args.child.now.contents.now) else c.args.child.now.contents.now) (sym w.if-child.false)
    ] in
    let same = child_by c.args.reader r k c.if-child.inner.now c.requires.reader c.requires.deep inner_is in
    let p = err_from_is_err_and c.from_residual-in_err-read.result c.from_residual-in_err-read.ensures.1 in
    rw (p.1, p.2) (λ is fits _. c.in_err-read.ensures.overflow (same_refusal _ _ is) (subst Fits (sym same) fits))

pub read_child-returns-in_err-add_blob-clause-overflow : goal.read_child-returns-in_err-add_blob-clause-overflow
read_child-returns-in_err-add_blob-clause-overflow t c =
    let r = c.args.reading.now in
    let k : Block = block_of c.args.child.now in
    let inner_is : c.if-child.inner.now ≡ k.contents =
    elim c.if-child.branch [
      | read_child-then-child w ↦
          ap (λ (b : Bor (List ℕ)). b.now) w.inner-is ∙ w.trim-inner.ensures ∙ ap trim (w.deref.ensures.value ∙ c.in_ok-doc.ensures w.if-child.true)
          ∙ ap (λ (b : Bool). if b then trim (doc_text c.args.child.now.contents.now) else c.args.child.now.contents.now) (sym w.if-child.true)
      | read_child-else-child w ↦
          ap (λ (b : Bor (List ℕ)). b.now) w.inner-is
          ∙ ap (λ (b : Bool). if b then trim (doc_text c.args.child.now.contents.now) else c.args.child.now.contents.now) (sym w.if-child.false)
    ] in
    let same = child_by c.args.reader r k c.if-child.inner.now c.requires.reader c.requires.deep inner_is in
    let old : Blobs = blobs_of (entries_of c.args.blobs.now.entries) in
    let p = err_from_is_err_and c.from_residual-in_err-add_blob.result c.from_residual-in_err-add_blob.ensures.1 in
    rw (p.1, p.2) (λ is _ fits. c.in_err-add_blob.ensures.overflow (same_refusal _ _ is)
    (subst (λ s. Fits (joined (at old k.language) (λ o. sum o s) s)) (sym (c.in_ok-read.ensures.reads ∙ same)) fits))

pub read_child-returns-clause-reads : goal.read_child-returns-clause-reads
read_child-returns-clause-reads t c =
    let r = c.args.reading.now in
    let k : Block = block_of c.args.child.now in
    let inner_is : c.if-child.inner.now ≡ k.contents =
    elim c.if-child.branch [
      | read_child-then-child w ↦
          ap (λ (b : Bor (List ℕ)). b.now) w.inner-is ∙ w.trim-inner.ensures ∙ ap trim (w.deref.ensures.value ∙ c.in_ok-doc.ensures w.if-child.true)
          ∙ ap (λ (b : Bool). if b then trim (doc_text c.args.child.now.contents.now) else c.args.child.now.contents.now) (sym w.if-child.true)
      | read_child-else-child w ↦
          ap (λ (b : Bor (List ℕ)). b.now) w.inner-is
          ∙ ap (λ (b : Bool). if b then trim (doc_text c.args.child.now.contents.now) else c.args.child.now.contents.now) (sym w.if-child.false)
    ] in
    let same = child_by c.args.reader r k c.if-child.inner.now c.requires.reader c.requires.deep inner_is in
    let old : Blobs = blobs_of (entries_of c.args.blobs.now.entries) in
    c.in_ok-add_blob.ensures.ok ∙ ap (λ s'. put old k.language (joined (at old k.language) (λ s. sum s s') s')) (c.in_ok-read.ensures.reads ∙ same)

pub read_child-returns-clause-steps : goal.read_child-returns-clause-steps
read_child-returns-clause-steps t c =
    let r = c.args.reading.now in
    let k : Block = block_of c.args.child.now in
    let inner_is : c.if-child.inner.now ≡ k.contents =
    elim c.if-child.branch [
      | read_child-then-child w ↦
          ap (λ (b : Bor (List ℕ)). b.now) w.inner-is ∙ w.trim-inner.ensures ∙ ap trim (w.deref.ensures.value ∙ c.in_ok-doc.ensures w.if-child.true)
          ∙ ap (λ (b : Bool). if b then trim (doc_text c.args.child.now.contents.now) else c.args.child.now.contents.now) (sym w.if-child.true)
      | read_child-else-child w ↦
          ap (λ (b : Bor (List ℕ)). b.now) w.inner-is
          ∙ ap (λ (b : Bool). if b then trim (doc_text c.args.child.now.contents.now) else c.args.child.now.contents.now) (sym w.if-child.false)
    ] in
    let made = child_steps_by c.args.reader r k c.if-child.inner.now c.requires.reader c.requires.deep inner_is in
    c.capped_sum.ensures ∙ ap (λ m. capped (c.args.steps.now + m)) (c.in_ok-read.ensures.steps ∙ ap capped made) ∙ capped-right c.args.steps.now (steps_inside r k)

pub read_child-returns-clause-overflow : goal.read_child-returns-clause-overflow
read_child-returns-clause-overflow t c = λ is fits _. answered _ _ is

pub read_text-of-matchers-requires : goal.read_text-of-matchers-requires
read_text-of-matchers-requires t c =
    matchers_below c.args.reader.table.now c.args.reader.matchers.now c.args.language c.args.language refl c.requires.indexed c.requires.known

pub read_text-new-so_far-requires : goal.read_text-new-so_far-requires
read_text-new-so_far-requires t c = record {
  lines = sym (c.is_notebook.ensures ∙ ap is_notebook c.syntax-syntax.ensures.row) ∙ c.if-is_notebook.false;
  tokens = ap has_tokens (sym c.syntax-syntax.ensures.row) ∙ c.syntax-syntax.ensures.tokens;
}

pub read_text-loop-so_far-smaller : goal.read_text-loop-so_far-smaller
read_text-loop-so_far-smaller t c =
    none_left (length c.args.text.now) c.loop-so_far.so_far.start c.skip_lines.new.so_far.start c.loop-so_far-test.true c.if-so_far-text.false
