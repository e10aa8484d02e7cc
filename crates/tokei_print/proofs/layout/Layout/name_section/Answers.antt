use Rattle.std.proofs.Common.{◌≡◌, ◌-◌, ◌∷◌, ◌++◌, length, IfOk, string_bytes, sym, ap, ap₂, subst, ◌∙◌}
use Rattle.tokei_table.specs.Bytes.{space}
use Rattle.tokei_print.specs.NameSection.{mark, room, shown_name}
use Rattle.tokei_print.proofs.layout.Layout.name_section.Goals as goal
use Rattle.tokei_print.proofs.layout.Layout.name_section.Goals.{then-inaccurate, else-inaccurate}

pub returns : goal.returns
returns c =
    let before = c.args.prefix.now in
    let marked : c.if-inaccurate.mark.now ≡ mark c.args.inaccurate = elim c.if-inaccurate.branch [
      | then-inaccurate w ↦ ap (λ m. m.now) w.mark-is ∙ ap mark (sym w.if-inaccurate.true)
      | else-inaccurate w ↦ ap (λ m. m.now) w.mark-is ∙ ap mark (sym w.if-inaccurate.false)
    ] in
    let places : c.saturating_sub-places.result ≡ room c.args.self.now.columns c.args.inaccurate before =
    c.saturating_sub-places.ensures ∙ ap₂ (λ n m. n - length m) c.saturating_sub.ensures marked in
    subst (λ b. IfOk c.format.result (λ s. string_bytes s ≡ b))
    (ap₂ (λ t m. before ++ (space ∷ (t ++ m)))
    (c.as_str-name.ensures.value ∙ c.in_ok-name.ensures ∙ ap (λ n. shown_name n c.args.name.now) places) marked)
    c.format.ensures.ok
