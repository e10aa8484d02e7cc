use Rattle.std.proofs.Common.{◌≡◌, rules, Err}
use Rattle.tokei_config.proofs.Founds.{read_told, refused_told}
use Rattle.tokei_folders.specs.Tree.{names_of, node_at}
use Rattle.tokei_folders.specs.declared.fs.Fault.TheVariants.{Refused}
use Rattle.tokei_config.proofs.files.content_at.Goals as goal

pub returns-in-Ok-clause-told : goal.returns-in-Ok-clause-told
returns-in-Ok-clause-told g c = λ t e.
    rw (read_told (node_at t (names_of c.args.place.now)) c.read.result c.in-Ok.bytes (c.read.ensures.told t e) c.in-Ok.is, ← c.as_slice.ensures.value) c.config_of_bytes.ensures.config

pub returns-in-Ok-clause-cause : goal.returns-in-Ok-clause-cause
returns-in-Ok-clause-cause g c = λ t e.
    rw (read_told (node_at t (names_of c.args.place.now)) c.read.result c.in-Ok.bytes (c.read.ensures.told t e) c.in-Ok.is, ← c.as_slice.ensures.value) c.config_of_bytes.ensures.cause

pub returns-in-Err-Refused-clause-told : goal.returns-in-Err-Refused-clause-told
returns-in-Err-Refused-clause-told g c = λ t e.
    let is : c.read.result ≡ Err Refused = search rules in
    rw (refused_told (node_at t (names_of c.args.place.now)) c.read.result (c.read.ensures.told t e) is) c.unreadable.ensures.config

pub returns-in-Err-Refused-clause-cause : goal.returns-in-Err-Refused-clause-cause
returns-in-Err-Refused-clause-cause g c = λ t e.
    let is : c.read.result ≡ Err Refused = search rules in
    rw (refused_told (node_at t (names_of c.args.place.now)) c.read.result (c.read.ensures.told t e) is) c.unreadable.ensures.cause
