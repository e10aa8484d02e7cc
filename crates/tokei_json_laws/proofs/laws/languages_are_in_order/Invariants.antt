use Rattle.tokei_json_laws.specs.InOrder.{ValuesAreInOrder}
use Rattle.tokei_languages.specs.Seen.{entries_of, languages_of}
use Rattle.tokei_json_laws.proofs.laws.languages_are_in_order.Given as goal

abbrev pub invariant-loop-language : goal.invariant-loop-language
invariant-loop-language l = ValuesAreInOrder (entries_of l._language-iterator) → ValuesAreInOrder (languages_of l.languages)
