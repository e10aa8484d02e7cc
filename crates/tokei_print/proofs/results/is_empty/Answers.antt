use Rattle.tokei_languages.specs.Seen.{language_of}
use Rattle.tokei_print.proofs.EmptyLanguages.{empty_language}
use Rattle.tokei_print.proofs.results.is_empty.Goals as goal

pub returns : goal.returns
returns c = empty_language c.is_empty.result (language_of c.args.language.now) c.is_empty.ensures
