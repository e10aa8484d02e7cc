-- The languages of the words so far are there.
use Rattle.std.proofs.Common.{◌≡◌, map, take, string_bytes}
use Rattle.tokei_cli.specs.Overriding.{languages_named}
use Rattle.tokei_cli.proofs.overriding.languages_named.Given as goal

abbrev pub invariant-loop-word : goal.invariant-loop-word
invariant-loop-word l = l.languages.items ≡ languages_named l.table (map string_bytes (take l.word-index l.words))
