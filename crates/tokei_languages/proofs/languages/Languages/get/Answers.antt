use Rattle.std.proofs.Common.{sym, ap, ◌∙◌, option_map}
use Rattle.tokei_languages.specs.Seen.{language_of}
use Rattle.tokei_languages.proofs.Entries.{at_seen}
use Rattle.tokei_languages.proofs.languages.Languages.get.Goals as goal

pub returns : goal.returns
returns c = ap (option_map language_of) c.get.ensures.value ∙ sym (at_seen language_of c.args.language c.args.self.now.languages.entries)
