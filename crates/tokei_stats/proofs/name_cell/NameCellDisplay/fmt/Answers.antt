use Rattle.std.proofs.Common.{rules, subst, ap, ◌∙◌, ◌++◌, ◌-◌, length}
use Rattle.std.specs.Fmt.{HasWritten, styled_text}
use Rattle.tokei_stats.proofs.Padding.{styled_left}
use Rattle.tokei_stats.proofs.name_cell.NameCellDisplay.fmt.Goals as goal

pub returns-clause-writes : goal.returns-clause-writes
returns-clause-writes g c = λ plain ok.
    let bar = c.bar_and_end.result.0.now in
    let end = c.bar_and_end.result.1.now in
    subst (λ text. HasWritten g.W.Write.write_str_gives c.args.f.now text c.write.new.self)
    (ap (λ s. bar ++ styled_text s end) c.laid_out.ensures
    ∙ ap (λ t. bar ++ t) (styled_left (c.args.self.now.places - length bar) end (search rules))
    ∙ c.bar_and_end.ensures.cell)
    (c.write.ensures.writes plain ok)
