-- What is said is what the run passed over, as it is shown.
use Rattle.std.proofs.Common.{◌≡◌, ◌∙◌, List, Err, inl, inr, ap, map, arith, rules, string_bytes, subst}
use Rattle.tokei_walk.specs.Walks.{texts_of}
use Rattle.tokei_program.proofs.Asking.{notes_shown}
use Rattle.tokei_program.proofs.Leaving.{on_err}
use Rattle.tokei_program.specs.Beside.{AnyMet, MetIn}
use Rattle.tokei_invocation.specs.NotesText.{passed_text}
use Rattle.tokei_invocation.specs.Shown.{AreShown, shown_note}
use Rattle.tokei_walk.specs.declared.kept_file.Note.{Note}
use Rattle.tokei_program.proofs.entry.write_prepared.Goals as goal

pub returns-in_ok-text-in-Ok-clause-beside : goal.returns-in_ok-text-in-Ok-clause-beside
returns-in_ok-text-in-Ok-clause-beside g c =
    let flaws = c.args.prepared.now.flaws.items in
    let notes = c.in-Ok.notes.items in
    let as_shown = c.in_ok-shown-in-Ok.shown.items in
    let shown : string_bytes c.in_ok-text-in-Ok.text ≡ passed_text c.args.table.now c.args.request.now.cli.now as_shown flaws = search rules in
    notes_shown AnyMet c.args.request.now.cli.now c.args.table.now flaws
    (texts_of c.args.prepared.now.job.ignored.items) notes as_shown (string_bytes c.in_ok-text-in-Ok.text)
    (subst (λ (ns : List Note). AreShown ns as_shown) c.deref.ensures.value c.in_ok-shown-in-Ok.ensures.some)
    c.requires.excludes c.in-Ok.ensures.notes shown

pub returns-in_ok-text-in-Ok-clause-noted : goal.returns-in_ok-text-in-Ok-clause-noted
returns-in_ok-text-in-Ok-clause-noted g c t told table empty members config =
    let flaws = c.args.prepared.now.flaws.items in
    let as_shown = c.in_ok-shown-in-Ok.shown.items in
    let shown : string_bytes c.in_ok-text-in-Ok.text ≡ passed_text c.args.table.now c.args.request.now.cli.now as_shown flaws = search rules in
    notes_shown (MetIn c.args.request.now.env.now t) c.args.request.now.cli.now c.args.table.now flaws
    (texts_of c.args.prepared.now.job.ignored.items) c.in-Ok.notes.items as_shown (string_bytes c.in_ok-text-in-Ok.text)
    (record {
      table = table;
      empty = empty;
      job = c.args.prepared.now.job;
      members = members;
      config = config;
      noted = c.in-Ok.ensures.noted t told;
      plain = c.in_ok-shown-in-Ok.ensures.silent t (c.run.ensures.folders.same ∙ told) ∙ ap (λ (ns : List Note). map shown_note ns) c.deref.ensures.value;
    })
    c.requires.excludes c.in-Ok.ensures.notes shown

pub returns-in_err-shown-in-Ok-clause-left : goal.returns-in_err-shown-in-Ok-clause-left
returns-in_err-shown-in-Ok-clause-left g c = λ t told. on_err c.from_residual.result (λ _. inl (c.in-Ok.ensures.told t told))

pub returns-in_err-text-in-Ok-clause-left : goal.returns-in_err-text-in-Ok-clause-left
returns-in_err-text-in-Ok-clause-left g c = λ t told. on_err c.from_residual-in_err-text-in-Ok.result (λ _. inl (c.in-Ok.ensures.told t told))

pub returns-in-Err-clause-left : goal.returns-in-Err-clause-left
returns-in-Err-clause-left g c = λ t told quiet.
    inr (c.in-Err.ensures.partly t told (λ is. absurd (let more = c.in-Err.ensures.fault quiet.0 (ap Err is) in omega (arith, more, quiet.1))))
