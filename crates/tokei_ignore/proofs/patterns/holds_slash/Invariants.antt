use Rattle.std.proofs.Common.{◌≡◌, drop}
use Rattle.std.specs.List.{list_any}
use Rattle.tokei_ignore.specs.Patterns.{is_slash}
use Rattle.tokei_ignore.proofs.patterns.holds_slash.Given as goal

abbrev pub invariant-loop-c : goal.invariant-loop-c
invariant-loop-c l = list_any is_slash (drop l.c-index l.chars) ≡ list_any is_slash l.chars
