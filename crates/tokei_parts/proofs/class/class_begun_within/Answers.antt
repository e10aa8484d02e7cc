use Rattle.std.proofs.Common.{◌-◌, ◌∙◌, List, ℕ, [], Some, drop, take, ap}
use Rattle.tokei_table.specs.Row.{Row}
use Rattle.tokei_parts.specs.Class.{class_of}
use Rattle.tokei_parts.specs.Items.{Mode}
use Rattle.tokei_parts.specs.ReadingOf.{row_in}
use Rattle.tokei_parts.specs.SeenChoices.{mode_of}
use Rattle.tokei_parts.specs.declared.reading.Reading.{Reading}
use Rattle.tokei_parts.proofs.class.class_begun_within.Goals as goal

pub returns : goal.returns
returns c =
    let r : Reading = c.args.reading.now in
    let part : List ℕ = take (c.args.stop - c.args.start) (drop c.args.start r.text.now) in
    let begun : Mode = (Some (record { kind = c.args.kind; closer = [] })) in
    c.class_of.ensures
    ∙ ap (λ (g : Row). class_of g r.docs_are_comments (record { begun = begun; bytes = part; ended = mode_of c.innermost.result })) r.row
    ∙ ap (λ (m : Mode). class_of (row_in r) r.docs_are_comments (record { begun = begun; bytes = part; ended = m })) c.innermost.ensures
