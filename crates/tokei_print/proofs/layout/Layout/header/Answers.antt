use Rattle.std.proofs.Common.{◌≡◌, ◌∷◌, ◌++◌, ◌-◌, codes, IfOk, string_bytes, ◌∙◌, arith}
use Rattle.std.proofs.lemmas.Result.{IfOk-weaker}
use Rattle.tokei_stats.proofs.Padding.{styled_left}
use Rattle.tokei_stats.specs.Places.{left_in}
use Rattle.tokei_table.specs.Bytes.{space}
use Rattle.tokei_print.proofs.Headings.{header_text}
use Rattle.tokei_print.specs.Heading.{header}
use Rattle.tokei_print.specs.Rules.{newline, row}
use Rattle.tokei_print.specs.declared.heading.TheConstants.{NAMES}
use Rattle.tokei_print.proofs.layout.Layout.header.Goals as goal

pub returns : goal.returns
returns c =
    let n = c.args.self.now.columns in
    let put : IfOk c.format.result (λ s. string_bytes s ≡ row n ++ (space ∷ (left_in (n - 69) (codes "Language") ++ (NAMES.now ++ (newline ++ row n))))) = grind (arith, styled_left) in
    IfOk-weaker c.format.result (λ s. string_bytes s ≡ row n ++ (space ∷ (left_in (n - 69) (codes "Language") ++ (NAMES.now ++ (newline ++ row n)))))
    (λ s. string_bytes s ≡ header n) (λ s e. e ∙ header_text n) put
