use Rattle.std.proofs.Common.{not}
use Rattle.std.specs.Bool.{⊤}
use Rattle.json.specs.Value.{value_view, members_view}
use Rattle.tokei_json_tree.specs.TreeData.{data_of, members_data}
use Rattle.tokei_json.specs.LanguageMaps.{all_names, has_both, language_named}
use Rattle.tokei_json_tree.proofs.Left.{AskedLeft}
use Rattle.tokei_json.proofs.language_maps.names_once.Given as goal

abbrev pub invariant-loop-member : goal.invariant-loop-member
invariant-loop-member l =
    AskedLeft (λ xs. all_names (λ k. not (has_both l.table (data_of (value_view l.value)) (language_named l.table k))) (members_data (members_view xs)))
    (λ xs. ⊤) l.member-items l.member-index
