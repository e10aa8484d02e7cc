use Rattle.std.proofs.Common.{◌∙◌, ◌++◌, ◌∷◌, [], ap, rc_value}
use Rattle.std.proofs.lemmas.List.{map-append}
use Rattle.tokei_parts.specs.Matchers.{Matchers}
use Rattle.tokei_parts.specs.TableMatchers.{behind}
use Rattle.tokei_parts.proofs.table_matchers.push_new.Goals as goal

pub returns : goal.returns
returns c =
    let before = c.args.all.now.items in
    ap behind c.in_ok-push.ensures.items
    ∙ map-append rc_value before (c.in_ok-shared.shared ∷ [])
    ∙ ap (λ (m : Matchers). behind before ++ m ∷ []) (c.in_ok-shared.ensures.ok ∙ c.in_ok-made.ensures)
