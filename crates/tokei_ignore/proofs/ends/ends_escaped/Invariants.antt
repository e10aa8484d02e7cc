use Rattle.std.proofs.Common.{◌≡◌, drop, false}
use Rattle.tokei_ignore.specs.Trims.{is_escaped}
use Rattle.tokei_ignore.proofs.ends.ends_escaped.Given as goal

abbrev pub invariant-loop-c : goal.invariant-loop-c
invariant-loop-c l = is_escaped l.odd (drop l.c-index l.chars) ≡ is_escaped false l.chars
