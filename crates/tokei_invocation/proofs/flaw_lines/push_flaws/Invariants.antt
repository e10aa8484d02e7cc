-- The lines of the flaws so far are added.
use Rattle.std.proofs.Common.{◌≡◌, ◌++◌, map, take}
use Rattle.tokei_invocation.specs.FlawLines.{flaw_line}
use Rattle.tokei_invocation.proofs.flaw_lines.push_flaws.Given as goal

abbrev pub invariant-loop-flaw : goal.invariant-loop-flaw
invariant-loop-flaw l = l.lines ≡ l.initial.lines ++ map flaw_line (take l.flaw-index l.flaws)
