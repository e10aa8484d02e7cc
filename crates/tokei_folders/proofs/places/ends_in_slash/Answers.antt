use Rattle.std.proofs.Common.{sym, ap, ◌∙◌}
use Rattle.tokei_folders.specs.Ends.{ends_in}
use Rattle.tokei_folders.proofs.ListEnds.{ends_in-push}
use Rattle.tokei_folders.proofs.places.ends_in_slash.Goals as goal

pub returns-in-Some : goal.returns-in-Some
returns-in-Some c = sym (ap (ends_in 47) (sym c.as_bytes.ensures.value ∙ c.in-Some.ensures.cases.0) ∙ ends_in-push 47 c.in-Some.last.now c.in-Some.field-0-1.now)
