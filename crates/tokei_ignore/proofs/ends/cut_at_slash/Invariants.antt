use Rattle.std.proofs.Common.{◌≡◌, ◌==◌, take, false, All}
use Rattle.tokei_ignore.proofs.ends.cut_at_slash.Given as goal

abbrev pub invariant-loop-i : goal.invariant-loop-i
invariant-loop-i l = All (λ c. (c == 47) ≡ false) (take l.i l.chars)
