-- A piece adds the language that it names, and the pieces are those between commas.
use Rattle.std.proofs.Common.{◌≡◌, ◌++◌, ◌∷◌, [], None, Some, lit<, ap, ◌∙◌, rules}
use Rattle.std.specs.Prelude.{filter_map}
use Rattle.std.proofs.lemmas.Iterator.Consumers.{YieldsList-end}
use Rattle.std.proofs.lemmas.Iterator.Splits.{YieldsList-from_str_split}
use Rattle.tokei_cli.specs.Overriding.{language_named}
use Rattle.tokei_cli.proofs.NamedTypes.{named_more}
use Rattle.tokei_cli.proofs.overriding.add_languages.Goals as goal

pub loop-piece-preserved-in-Continue-1 : goal.loop-piece-preserved-in-Continue-1
loop-piece-preserved-in-Continue-1 c =
    let pushed : c.push.new.self.items ≡ c.loop-piece.languages.items ++ c.in-Some-from_str.language ∷ [] = search rules in
    let found : Some c.in-Some-from_str.language ≡ language_named c.args.table.now c.in-Some.piece.now = search rules in
    pushed ∙ named_more (language_named c.args.table.now) c.args.languages.now.items c.loop-piece.languages.items c.loop-piece.yielded c.in-Some.piece
    (Some c.in-Some-from_str.language) found c.loop-piece.invariant

pub loop-piece-preserved : goal.loop-piece-preserved
loop-piece-preserved c =
    let none : None ≡ language_named c.args.table.now c.in-Some.piece.now = search rules in
    named_more (language_named c.args.table.now) c.args.languages.now.items c.loop-piece.languages.items c.loop-piece.yielded c.in-Some.piece
    None none c.loop-piece.invariant

pub returns : goal.returns
returns c =
    let t = YieldsList-end (YieldsList-from_str_split 44 c.args.word.now (lit< tt) (cc) (cc) (cc)) c.loop-piece.yielded _ c.loop-piece.yielded_by _ _ c.in-None.is c.next.ensures.steps in
    c.loop-piece.invariant ∙ ap (λ r. c.args.languages.now.items ++ filter_map (language_named c.args.table.now) r) t.0
