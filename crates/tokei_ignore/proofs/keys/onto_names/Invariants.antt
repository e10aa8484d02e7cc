use Rattle.std.proofs.Common.{◌≡◌, drop, Some}
use Rattle.tokei_ignore.specs.Keys.{folded, onto_names}
use Rattle.tokei_ignore.proofs.keys.onto_names.Given as goal

abbrev pub invariant-loop-name : goal.invariant-loop-name
invariant-loop-name l = folded onto_names l.key (drop l.name-index l.names) ≡ folded onto_names (Some 3) l.names
