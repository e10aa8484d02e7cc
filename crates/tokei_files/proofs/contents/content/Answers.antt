use Rattle.std.proofs.Common.{◌≡◌, ◌∙◌, refl, ap, sym, rules, Ok, Err, Some}
use Rattle.tokei_folders.specs.Tree.{node_at, names_of}
use Rattle.tokei_folders.specs.declared.fs.Fault.TheVariants.{Refused}
use Rattle.tokei_files.specs.Contents.{content_at}
use Rattle.tokei_files.proofs.ReadFiles.{told_content, told_refused, read_content, read_refused}
use Rattle.tokei_files.proofs.contents.content.Goals as goal

pub returns-then-listed-clause-told : goal.returns-then-listed-clause-told
unfolding content_at
returns-then-listed-clause-told g c = λ t e. told_content c.read_listed.result (node_at t (names_of c.args.place.now)) (c.read_listed.ensures.told t e)

pub returns-then-listed-clause-refused : goal.returns-then-listed-clause-refused
unfolding content_at
returns-then-listed-clause-refused g c = λ q t e. told_refused c.read_listed.result (node_at t (names_of c.args.place.now)) q (c.read_listed.ensures.told t e)

pub returns-in_ok-read-clause-told : goal.returns-in_ok-read-clause-told
unfolding content_at
returns-in_ok-read-clause-told g c = λ t e.
    read_content (Ok c.in_ok-read.field-0) (node_at t (names_of c.args.place.now)) c.in_ok-read.field-0 refl (c.in_ok-read.ensures.told t e)
    ∙ ap Some (sym c.from_vec.ensures)

pub returns-in_err-read-clause-refused : goal.returns-in_err-read-clause-refused
unfolding content_at
returns-in_err-read-clause-refused g c = λ q t e.
    let is : c.in_err-read.field-0.0 ≡ Refused = search rules in
    read_refused (Err c.in_err-read.field-0.0) (node_at t (names_of c.args.place.now)) (ap Err is) (c.in_err-read.ensures.told t e)
