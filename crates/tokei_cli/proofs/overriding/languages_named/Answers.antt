-- A word adds the languages that it names.
use Rattle.std.proofs.Common.{◌++◌, ◌∙◌, List, ℕ, ap}
use Rattle.tokei_cli.specs.Overriding.{languages_in}
use Rattle.tokei_cli.proofs.NamedTypes.{words_more}
use Rattle.tokei_cli.proofs.overriding.languages_named.Goals as goal

pub loop-word-preserved : goal.loop-word-preserved
loop-word-preserved c =
    let rows = c.args.table.now in
    let word = c.word-item.result in
    c.in_ok-add_languages.ensures ∙ ap (λ (text : List ℕ). c.loop-word.languages.items ++ languages_in rows text) c.as_str.ensures.value
    ∙ words_more rows c.args.words.now c.loop-word.word-index word c.loop-word.languages.items c.loop-word-test.true c.word-item.is c.loop-word.invariant
