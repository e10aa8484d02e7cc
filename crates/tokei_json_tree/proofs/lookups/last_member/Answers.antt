use Rattle.std.proofs.Common.{option_map, sym, ap, ◌∙◌}
use Rattle.json.specs.Value.{value_view}
use Rattle.tokei_json_tree.specs.Unordered.{unordered_data}
use Rattle.tokei_json_tree.proofs.Unordered.{last_found, seen_in}
use Rattle.tokei_json_tree.proofs.lookups.last_member.Goals as goal

pub returns : goal.returns
returns c =
    seen_in c.get.result
    ∙ ap (option_map unordered_data) c.get.ensures
    ∙ sym (last_found c.args.name.now (value_view c.args.tree.now))
