use Rattle.std.proofs.Common.{◌≡◌, ◌-◌, ◌∙◌, List, ℕ, drop, take, sym, ap}
use Rattle.tokei_parts.specs.Class.{class_of}
use Rattle.tokei_parts.specs.Items.{Mode}
use Rattle.tokei_parts.specs.LineWalk.{mode_in}
use Rattle.tokei_parts.specs.ReadingOf.{row_in}
use Rattle.tokei_parts.specs.SeenChoices.{mode_of}
use Rattle.tokei_parts.specs.declared.reading.Reading.{Reading}
use Rattle.tokei_parts.proofs.class.class_by_all.Goals.{in-Some, in-None}
use Rattle.tokei_parts.proofs.class.class_by_all.Goals as goal

pub returns : goal.returns
returns c = λ m is.
    let r : Reading = c.args.reading.now in
    let part : List ℕ = take (c.args.stop - c.args.start) (drop c.args.start r.text.now) in
    let ended : mode_of c.match-kind.ended ≡ mode_in c.args.kind c.args.closer.now = elim c.match-kind.branch [
      | in-Some w ↦ ap mode_of w.ended-is ∙ ap (λ kind. mode_in kind c.args.closer.now) (sym w.in-Some.is)
      | in-None w ↦ ap mode_of w.ended-is ∙ ap (λ kind. mode_in kind c.args.closer.now) (sym w.in-None.is)
    ] in
    c.class_by.ensures m is
    ∙ ap (λ (n : Mode). class_of (row_in r) r.docs_are_comments (record { begun = m; bytes = part; ended = n })) (c.stack_of.ensures ∙ ended)
