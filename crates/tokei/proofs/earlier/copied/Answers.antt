use Rattle.std.proofs.Common.{sym, ap, ◌∙◌, ◌++◌}
use Rattle.tokei_languages.specs.Seen.{entries_of, language_of, languages_of}
use Rattle.tokei.proofs.Filling.{filled_more}
use Rattle.tokei.proofs.earlier.copied.Goals as goal

pub loop-language-preserved : goal.loop-language-preserved
loop-language-preserved c =
    filled_more (languages_of c.loop-language.copies) (languages_of c.insert.new.self) c.in-Some.language.now
    (language_of c.in_ok-copy.copy) (language_of c.in-Some.value.now)
    (entries_of c.next.new.self) (languages_of c.args.languages.now)
    c.in_ok-_none.ensures.ok c.in_ok-copy.ensures.ok
    (ap (λ es. languages_of c.loop-language.copies ++ entries_of es) (sym c.in-Some.ensures.steps)
    ∙ c.loop-language.invariant)
    c.iter-language-items.ensures.order

pub loop-language-preserved-in_ok-_none : goal.loop-language-preserved-in_ok-_none
loop-language-preserved-in_ok-_none c =
    filled_more (languages_of c.loop-language.copies) (languages_of c.insert.new.self) c.in-Some.language.now
    (language_of c.in_ok-copy.copy) (language_of c.in-Some.value.now)
    (entries_of c.next.new.self) (languages_of c.args.languages.now)
    c.in_ok-_none.ensures.ok c.in_ok-copy.ensures.ok
    (ap (λ es. languages_of c.loop-language.copies ++ entries_of es) (sym c.in-Some.ensures.steps)
    ∙ c.loop-language.invariant)
    c.iter-language-items.ensures.order
