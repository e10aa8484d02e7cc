-- The lines of the words so far are added.
use Rattle.std.proofs.Common.{◌≡◌, ◌++◌, map, string_bytes, take}
use Rattle.tokei_invocation.specs.Types.{piece_line, unnamed_of}
use Rattle.tokei_invocation.proofs.types.push_words.Given as goal

abbrev pub invariant-loop-word : goal.invariant-loop-word
invariant-loop-word l = l.lines ≡ l.initial.lines ++ map piece_line (unnamed_of l.table (map string_bytes (take l.word-index l.words)))
