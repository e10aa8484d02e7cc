use Rattle.std.proofs.Common.{◌≡◌, length, None}
use denote.Text.{Utf8}
use denote.Shadow.{shadow}
use Rattle.std.specs.List.{last_or}
use Rattle.tokei_folders.specs.Tree.{names_of}
use Rattle.tokei_folders.proofs.names.last_name.Given as goal

abbrev pub invariant-loop-front : goal.invariant-loop-front
invariant-loop-front l = (last_or None (names_of l.rest) ≡ last_or None (names_of l.fn.place)) × shadow (Utf8 l.rest)

abbrev pub decreases-loop-front : goal.decreases-loop-front
decreases-loop-front l = length l.rest
