use Rattle.std.proofs.Common.{◌≡◌, ◌≤◌, nat_lt, length}
use Rattle.tokei_ignore.specs.Trims.{without_spaces}
use Rattle.tokei_ignore.proofs.ends.trimmed.Given as goal

abbrev pub invariant-loop-spaces : goal.invariant-loop-spaces
invariant-loop-spaces l =
    (without_spaces l.chars ≡ without_spaces l.initial.chars) × (l.spaces ≡ nat_lt (length l.chars) (length l.initial.chars)) × (length l.chars ≤ length l.initial.chars)

abbrev pub decreases-loop-spaces : goal.decreases-loop-spaces
decreases-loop-spaces l = length l.chars
