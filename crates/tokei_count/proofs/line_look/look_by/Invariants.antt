use Rattle.std.proofs.Common.{◌≡◌, ◌-◌, ◌<◌, ◌==◌, true}
use Rattle.tokei_bytes.specs.Lines.{blank_after}
use Rattle.tokei_table.specs.Slices.{between}
use Rattle.tokei_parts.specs.ReadingOf.{openers_in, row_in}
use Rattle.tokei_parts.specs.LineMarks.{is_marked}
use Rattle.tokei_count.specs.LineLooks.{AreTold, IsClear, IsLook}
use Rattle.tokei_count.proofs.line_look.look_by.Given as goal

abbrev pub invariant-loop-look : goal.invariant-loop-look
invariant-loop-look g l = record {
  look : IsLook (is_marked l.ahead.marks.now) l.ahead.reading.now.text.now l.ahead.start l.look;
  flag : l.blank < 2;
  blank : (l.blank == 1) ≡ blank_after true (between l.ahead.reading.now.text.now l.ahead.start l.look.at);
  clear : IsClear (openers_in l.ahead.reading.now) l.ahead.reading.now.text.now l.ahead.start l.look.at;
  told : AreTold (row_in l.ahead.reading.now) (is_marked l.ahead.marks.now) l.ahead.reading.now.text.now l.ahead.start l.look.at;
}

abbrev pub decreases-loop-look : goal.decreases-loop-look
decreases-loop-look g l = l.end - l.look.at
