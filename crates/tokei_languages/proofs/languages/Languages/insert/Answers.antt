use Rattle.std.proofs.Common.{sym, ap, ◌∙◌, option_map}
use Rattle.tokei_languages.specs.Seen.{entries_of, language_of}
use Rattle.tokei_languages.proofs.Entries.{at_seen, inserted_seen}
use Rattle.tokei_languages.proofs.languages.Languages.insert.Goals as goal

pub returns-clause-ok : goal.returns-clause-ok
returns-clause-ok c =
    ap entries_of c.in_ok-insert.ensures.entries
    ∙ inserted_seen language_of c.args.self.now.languages.entries c.args.language c.args.value

pub returns-clause-replaced : goal.returns-clause-replaced
returns-clause-replaced c =
    ap (option_map language_of) c.in_ok-insert.ensures.old
    ∙ sym (at_seen language_of c.args.language c.args.self.now.languages.entries)
