use Rattle.std.proofs.Common.{◌≡◌, []}
use Rattle.tokei_json.specs.Tokens.{named}
use Rattle.tokei_json.proofs.Naming.{now_of, seen_by}
use Rattle.tokei_json.proofs.tokens.by_name.Given as goal

abbrev pub invariant-loop-language : goal.invariant-loop-language
invariant-loop-language g l = named l.table l.fn.values [] ≡ named l.table l.language-iterator (seen_by now_of l.members.entries)
