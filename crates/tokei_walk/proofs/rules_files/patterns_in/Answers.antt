-- One note more.
use Rattle.tokei_walk.proofs.Growing.{grows_by, grows_on, one_note_more, grows_same}
use Rattle.std.proofs.Common.{refl}
use Rattle.tokei_walk.proofs.rules_files.patterns_in.Goals as goal

pub loop-preserved : goal.loop-preserved
loop-preserved c = record {
  made = one_note_more _ _ _ c.loop.counter _ c.loop.invariant.made c.in_ok-note.ensures.ok;
  grows = grows_on _ _ _ c.loop.invariant.grows (grows_by _ _ _ c.in_ok-note.ensures.ok);
}

pub returns-in_err-file-clause-notes : goal.returns-in_err-file-clause-notes
returns-in_err-file-clause-notes c = grows_same _ _ refl

pub returns-in_err-note-clause-notes : goal.returns-in_err-note-clause-notes
returns-in_err-note-clause-notes c = grows_on _ _ _ c.loop.invariant.grows c.note.ensures.grows

pub returns-clause-notes : goal.returns-clause-notes
returns-clause-notes c = c.loop.invariant.grows

pub returns-clause-patterns : goal.returns-clause-patterns
returns-clause-patterns c = c.in_ok-file.ensures.patterns
