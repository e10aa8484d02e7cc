-- The lines so far stand in the text, each with its newline.
use Rattle.std.proofs.Common.{◌≡◌, flat_map, map, string_bytes, take}
use Rattle.tokei_invocation.specs.NotesText.{ended}
use Rattle.tokei_invocation.proofs.notes.text_of.Given as goal

abbrev pub invariant-loop-line : goal.invariant-loop-line
invariant-loop-line l = string_bytes l.text ≡ flat_map ended (map string_bytes (take l.line-index l.lines))
