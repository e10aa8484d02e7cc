use Rattle.tokei_json_laws.specs.InOrder.{ListsAreInOrder}
use Rattle.tokei_languages.specs.Seen.{children_of}
use Rattle.tokei_json_laws.proofs.laws.children_are_in_order.Given as goal

abbrev pub invariant-loop-language : goal.invariant-loop-language
invariant-loop-language l = ListsAreInOrder (children_of l._language-iterator) → ListsAreInOrder (children_of l.children.entries)
