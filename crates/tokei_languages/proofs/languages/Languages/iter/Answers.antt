use Rattle.std.proofs.Common.{sym, subst}
use Rattle.std.specs.Ordering.{nat_cmp}
use Rattle.std.specs.List.Sorted.{IsStrictlySortedBy}
use Rattle.tokei_languages.specs.Seen.{language_of}
use Rattle.tokei_languages.proofs.Entries.{keys_seen}
use Rattle.tokei_languages.proofs.languages.Languages.iter.Goals as goal

pub returns-clause-order : goal.returns-clause-order
returns-clause-order c = subst (IsStrictlySortedBy nat_cmp) (sym (keys_seen language_of c.args.self.now.languages.entries)) c.iter.ensures.ordered
