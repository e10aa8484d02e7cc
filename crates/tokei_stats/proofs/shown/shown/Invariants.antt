-- The characters so far are shown.
use Rattle.std.proofs.Common.{◌≡◌, flat_map, string_bytes}
use Rattle.tokei_stats.specs.Shown.{shown_char}
use Rattle.tokei_stats.proofs.shown.shown.Given as goal

abbrev pub invariant-loop-character : goal.invariant-loop-character
invariant-loop-character l = string_bytes l.all ≡ flat_map shown_char l.yielded
