use Rattle.std.proofs.Common.{◌≡◌, fold}
use Rattle.std.specs.Vec.Iter.{into_iter_items}
use Rattle.tokei_config.specs.Languages.{named_twice, in_table_order}
use Rattle.tokei_config.specs.Seen.{additions_of}
use Rattle.tokei_config.proofs.InOrder.{placed, clash}
use Rattle.tokei_config.proofs.languages.one_each.Given as goal

abbrev pub invariant-loop-language : goal.invariant-loop-language
invariant-loop-language l = record {
  order : in_table_order (additions_of l.fn.found.items) ≡ fold placed (additions_of l.languages.entries) (additions_of (into_iter_items l.language-iterator));
  clashes : named_twice (additions_of l.fn.found.items) ≡ clash l.languages.entries (additions_of (into_iter_items l.language-iterator));
}
