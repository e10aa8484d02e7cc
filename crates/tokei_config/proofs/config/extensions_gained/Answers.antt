use Rattle.std.proofs.Common.{◌≡◌, ◌++◌, ◌∷◌, ◌∙◌, [], ap, map}
use Rattle.std.proofs.lemmas.List.{map-append}
use Rattle.tokei_config.specs.Seen.{additions_of, extensions_of}
use Rattle.tokei_config.proofs.InOrder.{gained_more}
use Rattle.tokei_table.specs.Extended.{addition_of}
use Rattle.tokei_config.proofs.config.extensions_gained.Goals as goal

pub loop-language-preserved : goal.loop-language-preserved
loop-language-preserved c =
    let pushed : map addition_of c.push.new.self.items ≡ map addition_of c.loop-language.additions.items ++ (c.in-Some.language.now, extensions_of c.in-Some.config.now) ∷ [] =
    rw (c.in-Ok.ensures.items, map-append, c.as_slice.ensures.value) in
    ap (λ l. l ++ additions_of c.next.new.self) pushed
    ∙ gained_more c.loop-language.language-iterator c.next.new.self (c.in-Some.language.now, c.in-Some.config.now) (map addition_of c.loop-language.additions.items) _
    c.in-Some.ensures.steps c.loop-language.invariant
