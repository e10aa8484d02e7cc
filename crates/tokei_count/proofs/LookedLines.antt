-- The lines that a look showed, but the one that it ended in, are counted by their fronts, and by the
-- marked ones among these.
use Rattle.std.proofs.Common.{Bool, ◌≡◌, ℕ, ◌+◌, ◌-◌, ◌<◌, ◌≤◌, ◌^◌, true, [], None, get_or, arith}
use Rattle.tokei_bytes.specs.Lines.{front_count, newline_count}
use Rattle.tokei_table.specs.FirstOpener.{first_opener}
use Rattle.tokei_table.specs.Openers.{openers}
use Rattle.tokei_table.specs.Slices.{between}
use Rattle.tokei_parts.specs.LineMarks.{AreMarks}
use Rattle.tokei_parts.specs.ReadingOf.{openers_in, row_in}
use Rattle.tokei_parts.specs.Seen.{chain_of}
use Rattle.tokei_parts.specs.declared.reading.Reading.{Reading}
use Rattle.tokei_stats.specs.Overflow.{CountsFit}
use Rattle.tokei_stats.specs.Seen.{sums_of}
use Rattle.tokei_stats.specs.Statistics.{plus}
use Rattle.tokei_stats.specs.declared.sums.Sums.{Sums}
use Rattle.tokei_count.specs.LineLooks.{AreTold, IsClear, IsLook, mark_count}
use Rattle.tokei_count.specs.NoComments.{counts_with}
use Rattle.tokei_count.specs.UnderWay.{IsUnderWay}
use Rattle.tokei_count.specs.declared.line_look.Look.{Look}
use Rattle.tokei_count.specs.declared.text_reading.ReadSoFar.{ReadSoFar}
use Rattle.tokei_count.proofs.LastLines.{fronts_few, newlines_before}
use Rattle.tokei_count.proofs.MarkedLines.{marked_way}
use Rattle.tokei_count.proofs.UnderWay.{gone_on}

module _ (r : Reading) (p : ReadSoFar) (is_mark : ℕ → Bool) (look : Look) (some : p.start < look.stop) (is : IsLook is_mark r.text.now p.start look) (solid comments : ℕ)
    (solid_is : solid ≡ front_count true (between r.text.now p.start look.stop)) (comments_is : comments ≡ mark_count is_mark true (between r.text.now p.start look.stop)) where
  -- each front has its newline
  pub solid_few : solid ≤ look.newlines
  solid_few =
      omega (
        arith,
        solid_is,
        is.newlines,
        newlines_before is_mark r.text.now p.start look.stop look.at some is.order is.high (is.begun some) is.on,
        fronts_few is_mark r.text.now p.start look.stop look.at some is.order is.high (is.begun some) is.on,
      )

  pub looked_way : (lines : Sums) → r.skips ≡ true → IsUnderWay r p → chain_of p.stack.items ≡ [] → ((k : ℕ) → get_or r.text.now k 0 < 256)
      → AreMarks is_mark r.matchers.now.begins (openers_in r) → IsClear (openers_in r) r.text.now p.start look.at → AreTold (row_in r) is_mark r.text.now p.start look.at
      → sums_of lines ≡ counts_with (row_in r).literate (look.newlines - solid) solid comments → IsUnderWay r (gone_on p lines look.stop)
  looked_way lines skipped way plain bytes marks clear told sums =
      let whole : look.newlines - solid + solid ≡ newline_count (between r.text.now p.start look.stop) =
      omega (arith, solid_few, is.newlines, newlines_before is_mark r.text.now p.start look.stop look.at some is.order is.high (is.begun some) is.on) in
      marked_way r p is_mark look.stop lines (look.newlines - solid) solid comments skipped way plain bytes marks (omega (arith, some)) (omega (arith, is.order, is.high)) is.begun
      (λ q low high. clear q low (omega (arith, high, is.order))) (λ q low high. told q low (omega (arith, high, is.order))) solid_is comments_is whole sums

-- where no opener is, the counts have room
pub looked_fits : (r : Reading) (p : ReadSoFar) (lines : Sums) (stop : ℕ) → r.skips ≡ true → stop < 2 ^ 64 → IsUnderWay r (gone_on p lines stop)
    → first_opener (openers (row_in r)) r.text.now ≡ None → CountsFit (plus (sums_of p.own) (sums_of lines))
looked_fits r p lines stop skipped small way none =
    let few = (way.quiet skipped none).1 in
    record { blanks = omega (arith, few, small); code = omega (arith, few, small); comments = omega (arith, few, small) }
