use Rattle.std.proofs.Common.{◌≡◌, ◌++◌}
use Rattle.tokei_languages.specs.Seen.{children_of}
use Rattle.tokei_languages.proofs.copies.copied_children.Given as goal

abbrev pub invariant-loop-language : goal.invariant-loop-language
invariant-loop-language l = children_of l.copies.entries ++ children_of l.language-iterator ≡ children_of l.children.entries
