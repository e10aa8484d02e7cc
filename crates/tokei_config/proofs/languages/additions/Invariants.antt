use Rattle.std.proofs.Common.{◌≡◌}
use Rattle.toml.specs.View.{members_view}
use Rattle.tokei_config.specs.Languages.{additions}
use Rattle.tokei_config.specs.Seen.{additions_of}
use Rattle.tokei_config.proofs.Lists.{behind}
use Rattle.tokei_config.proofs.languages.additions.Given as goal

abbrev pub invariant-loop-key : goal.invariant-loop-key
invariant-loop-key l = additions l.table (members_view l.members.entries) ≡ behind (additions_of l.found.items) (additions l.table (members_view l.key-iterator))
