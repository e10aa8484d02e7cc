use Rattle.std.proofs.Common.{◌≡◌, drop, map, string_bytes}
use Rattle.toml.specs.Data.{as_str}
use Rattle.toml.specs.View.{items_view}
use Rattle.tokei_config.specs.Members.{all_of}
use Rattle.tokei_config.proofs.Lists.{behind}
use Rattle.tokei_config.proofs.languages.texts.Given as goal

abbrev pub invariant-loop-value : goal.invariant-loop-value
invariant-loop-value l = all_of as_str (items_view l.values) ≡ behind (map string_bytes l.texts.items) (all_of as_str (items_view (drop l.value-index l.values)))
