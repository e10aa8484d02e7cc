-- The characters are those of the text.
use Rattle.std.proofs.Common.{flat_map, ap, sym, ◌∙◌, [], ◌++◌}
use Rattle.std.proofs.lemmas.Iterator.{YieldsList-from_chars}
use Rattle.std.proofs.lemmas.Iterator.Consumers.{YieldsList-end}
use Rattle.std.proofs.lemmas.List.{map-id, flat_map_more}
use Rattle.tokei_stats.specs.Shown.{shown_char}
use Rattle.tokei_stats.proofs.shown.shown.Goals as goal

pub returns : goal.returns
returns c =
    let t = YieldsList-end (YieldsList-from_chars c.args.text.now c.utf8.text cc) c.loop-character.yielded _ c.loop-character.yielded_by _ _ c.in-None.is c.next.ensures.steps in
    c.loop-character.invariant ∙ ap (flat_map shown_char) (sym (map-id c.loop-character.yielded) ∙ t.0)

pub loop-character-preserved : goal.loop-character-preserved
loop-character-preserved c =
    c.in_ok-push_shown.ensures
    ∙ ap (λ t. t ++ shown_char c.in-Some.character) c.loop-character.invariant
    ∙ flat_map_more shown_char [] c.loop-character.yielded c.in-Some.character
