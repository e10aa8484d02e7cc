use Rattle.std.proofs.Common.{◌≡◌, ◌+◌, ◌≤◌, length, vec_len}
use Rattle.std.specs.Vec.{vec_capacity}
use Rattle.tokei_languages.specs.Merging.{appended}
use Rattle.tokei_languages.specs.TakenBack.{all_taken_back}
use Rattle.tokei_languages.specs.Seen.{children_of}
use Rattle.tokei_languages.proofs.children.append.Given as goal

abbrev pub invariant-loop-language : goal.invariant-loop-language
invariant-loop-language l = record {
  done : appended (children_of l.children.entries) (children_of l.language-iterator) ≡ appended (children_of l.initial.children.entries) (children_of l.fn.more.entries);
  back : all_taken_back (children_of l.children.entries) l.before.items ≡ children_of l.initial.children.entries;
  room : vec_len l.before + length l.language-iterator ≤ vec_capacity l.before;
}
