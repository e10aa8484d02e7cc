use Rattle.std.proofs.Common.{◌≡◌, ◌<◌, ◌++◌}
use Rattle.tokei_folders.specs.Answers.{Told}
use Rattle.tokei_files.specs.Files.{ReadingsFit}
use Rattle.tokei_files.specs.Seen.{counting_of}
use Rattle.tokei_files.specs.Unread.{unread_of}
use Rattle.tokei_walk.specs.Noted.{NotesCome}
use Rattle.tokei_walk.specs.Notes.{Grows, notes_of}
use Rattle.tokei_walk.specs.Ranks.{rank}
use Rattle.tokei_walk.specs.Walks.{noted_to_come, to_come}
use Rattle.tokei.proofs.WrittenRows.{RowsSoFar}
use Rattle.tokei.specs.Shapes.{WritesSomeRows}
use Rattle.tokei.specs.Streams.{file_row}
use Rattle.tokei.proofs.streaming.write_rows.Given as goal

abbrev pub invariant-loop-file : goal.invariant-loop-file
invariant-loop-file g l = record {
  same : g.F.Folders.tree l.folders ≡ g.F.Folders.tree l.initial.folders;
  told : Told (g.F.Folders.tree l.initial.folders) (λ t.
      RowsSoFar (file_row l.by.rows.now.form l.by.rows.now.table.now (counting_of l.by.counting.now) t) (to_come t l.initial.walk) (to_come t l.walk)
      (g.W.Sink.contents l.initial.writer) (g.W.Sink.contents l.writer));
  fits : Told (g.F.Folders.tree l.initial.folders) (λ t.
      ReadingsFit (counting_of l.by.counting.now) t (to_come t l.initial.walk) → ReadingsFit (counting_of l.by.counting.now) t (to_come t l.walk));
  notes : Grows (notes_of l.initial.walk) (notes_of l.walk);
  unread : Told (g.F.Folders.tree l.initial.folders) (λ t.
      l.unread.items ++ unread_of (counting_of l.by.counting.now) t (to_come t l.walk) ≡ l.initial.unread.items ++ unread_of (counting_of l.by.counting.now) t (to_come t l.initial.walk));
  noted : Told (g.F.Folders.tree l.initial.folders) (λ t. NotesCome (notes_of l.initial.walk) (noted_to_come t l.initial.walk) (notes_of l.walk) (noted_to_come t l.walk));
  rows : WritesSomeRows l.by.rows.now.form l.by.rows.now.table.now (g.W.Sink.contents l.initial.writer) (g.W.Sink.contents l.writer);
  no_fault : g.W.Sink.faults l.initial.writer < 18446744073709551615 → g.W.Sink.faults l.writer ≡ g.W.Sink.faults l.initial.writer;
  honest : g.F.Folders.memory_faults l.initial.folders < 18446744073709551615 → g.F.Folders.memory_faults l.folders ≡ g.F.Folders.memory_faults l.initial.folders;
}

abbrev pub decreases-loop-file : goal.decreases-loop-file
decreases-loop-file g l = rank l.walk
