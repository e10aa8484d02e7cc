use Rattle.std.proofs.Common.{◌≡◌, drop}
use Rattle.toml.specs.View.{items_view}
use Rattle.tokei_config.specs.Members.{all_of, as_language}
use Rattle.tokei_config.proofs.Lists.{behind}
use Rattle.tokei_config.proofs.languages.languages_named.Given as goal

abbrev pub invariant-loop-value : goal.invariant-loop-value
invariant-loop-value l = all_of (as_language l.table) (items_view l.values) ≡ behind l.languages.items (all_of (as_language l.table) (items_view (drop l.value-index l.values)))
