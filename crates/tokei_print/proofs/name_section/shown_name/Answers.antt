use Rattle.std.proofs.Common.{◌≡◌, ◌++◌, codes, IfOk, string_bytes, ap, subst, ◌∙◌}
use Rattle.std.specs.Fmt.{format_spec, styled_text}
use Rattle.tokei_print.proofs.Padding.{cut_name, whole_name}
use Rattle.tokei_print.proofs.name_section.shown_name.Goals as goal

pub returns-then-places-name : goal.returns-then-places-name
returns-then-places-name c =
    subst (λ b. IfOk c.format.result (λ s. string_bytes s ≡ b))
    (ap (λ l. styled_text l c.args.name.now ++ codes "|") (c.laid_out.ensures ∙ ap (λ n. format_spec 32 0 0 0 n) c.saturating_sub-shown.ensures)
    ∙ cut_name c.args.places c.args.name.now c.if-places-name.true c.requires)
    c.format.ensures.ok

pub returns-else-places-name : goal.returns-else-places-name
returns-else-places-name c =
    subst (λ b. IfOk c.format-else-places-name.result (λ s. string_bytes s ≡ b))
    (ap (λ l. styled_text l c.args.name.now) c.laid_out-else-places-name.ensures
    ∙ whole_name c.args.places c.args.name.now c.if-places-name.false c.requires)
    c.format-else-places-name.ensures.ok
