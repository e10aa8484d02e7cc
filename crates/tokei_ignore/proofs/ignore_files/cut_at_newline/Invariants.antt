use Rattle.std.proofs.Common.{◌≡◌, ◌==◌, take, false, All}
use Rattle.tokei_ignore.proofs.ignore_files.cut_at_newline.Given as goal

abbrev pub invariant-loop-i : goal.invariant-loop-i
invariant-loop-i l = All (λ b. (b == 10) ≡ false) (take l.i l.bytes)
