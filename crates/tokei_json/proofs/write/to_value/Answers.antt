use Rattle.std.proofs.Common.{ap, ◌∙◌, refl}
use Rattle.serde_json.specs.Data.{object}
use Rattle.serde_json.proofs.Views.{view-Object}
use Rattle.tokei_json.specs.Document.{document}
use Rattle.tokei_json.proofs.write.to_value.Goals as goal

pub returns-clause-value : goal.returns-clause-value
unfolding document
returns-clause-value c = view-Object c.put.new.map ∙ ap object (c.in_ok-put.ensures.ok ∙ rw (c.in_ok-total.ensures, c.in_ok-members.ensures) refl)
