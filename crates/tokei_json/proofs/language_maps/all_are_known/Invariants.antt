use Rattle.std.proofs.Common.{◌&&◌, ◌||◌, is_some, codes, bytes_eq}
use Rattle.std.specs.Bool.{⊤}
use Rattle.json.specs.Value.{members_view}
use Rattle.tokei_json_tree.specs.TreeData.{members_data}
use Rattle.tokei_json.specs.LanguageMaps.{all_names, language_named}
use Rattle.tokei_json_tree.proofs.Left.{AskedLeft}
use Rattle.tokei_json.proofs.language_maps.all_are_known.Given as goal

abbrev pub invariant-loop-member : goal.invariant-loop-member
invariant-loop-member l =
    AskedLeft (λ xs. all_names (λ k. l.of_document && bytes_eq k (codes "Total") || is_some (language_named l.table k)) (members_data (members_view xs)))
    (λ xs. ⊤) l.member-items l.member-index
