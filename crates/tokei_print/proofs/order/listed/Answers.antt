use Rattle.std.proofs.Common.{◌++◌, ◌∷◌, [], ap, ◌∙◌}
use Rattle.tokei_languages.specs.Seen.{entries_of, language_of, languages_of}
use Rattle.tokei_print.specs.ListedLanguages.{languages_in}
use Rattle.tokei_print.proofs.Behind.{one_more, no_more}
use Rattle.tokei_print.proofs.order.listed.Goals as goal

pub loop-language-init : goal.loop-language-init
loop-language-init c =
    ap (λ es. languages_in es ++ entries_of c.into_iter-language-iterator.result) c.new-all.ensures.items
    ∙ ap entries_of c.into_iter-language-iterator.ensures.into_iter_gives ∙ c.iter-language-items.ensures.entries

pub loop-language-preserved : goal.loop-language-preserved
loop-language-preserved c =
    one_more (languages_in c.loop-language.all.items) (languages_of c.args.languages.now) (languages_in c.add.new.listed.items)
    ((c.in-Some.language.now, language_of c.in-Some.value.now) ∷ []) (entries_of c.loop-language.language-iterator) (entries_of c.next.new.self)
    c.loop-language.invariant (ap entries_of c.in-Some.ensures.steps) c.in_ok-add.ensures

pub returns : goal.returns
returns c =
    no_more (languages_in c.loop-language.all.items) (languages_of c.args.languages.now) (entries_of c.loop-language.language-iterator)
    c.loop-language.invariant (ap entries_of c.in-None.ensures.steps.0)
