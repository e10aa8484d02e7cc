use Rattle.std.proofs.Common.{◌≡◌, ◌∙◌, rules, Some, Ok}
use Rattle.tokei_config.proofs.Founds.{file_is_found, kind_told}
use Rattle.tokei_folders.specs.Answers.{node_kind}
use Rattle.tokei_folders.specs.Tree.{names_of, node_at}
use Rattle.tokei_folders.specs.declared.fs.Kind.TheVariants as kind
use Rattle.tokei_config.proofs.files.read_at.Goals as goal

pub returns-in-Ok-Some-File-clause-cause : goal.returns-in-Ok-Some-File-clause-cause
returns-in-Ok-Some-File-clause-cause g c = λ t e.
    let is : c.kind_if_any.result ≡ Ok (Some kind.File) = search rules in
    let file = kind_told (node_kind (node_at t (names_of c.args.place.now))) c.kind_if_any.result kind.File (c.kind_if_any.ensures.told t e) is in
    rw (file_is_found (node_at t (names_of c.args.place.now)) file) (c.content_at.ensures.cause t (c.kind_if_any.ensures.same ∙ e))

pub returns-in-Ok-Some-File-clause-told : goal.returns-in-Ok-Some-File-clause-told
returns-in-Ok-Some-File-clause-told g c = λ t e. c.content_at.ensures.told t (c.kind_if_any.ensures.same ∙ e)
