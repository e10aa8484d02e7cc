use Rattle.std.proofs.Common.{◌≡◌, vec_len}
use Rattle.tokei_languages.specs.TakenBack.{all_taken_back}
use Rattle.tokei_languages.specs.Seen.{children_of}
use Rattle.tokei_languages.proofs.children.take_all_back.Given as goal

abbrev pub invariant-loop-last : goal.invariant-loop-last
invariant-loop-last l = all_taken_back (children_of l.children.entries) l.before.items ≡ all_taken_back (children_of l.initial.children.entries) l.initial.before.items

abbrev pub decreases-loop-last : goal.decreases-loop-last
decreases-loop-last l = vec_len l.before
