use Rattle.std.proofs.Common.{◌≡◌, ◌-◌, [], ◌∷◌, ◌++◌, Bool, if◌then◌else◌, codes, length, replicate, IfOk, string_bytes, sym, ap, subst, ◌∙◌}
use Rattle.std.specs.List.{repeat}
use Rattle.tokei_table.specs.Bytes.{space}
use Rattle.tokei_print.specs.BlobRows.{dash}
use Rattle.tokei_print.specs.Rules.{newline}
use Rattle.tokei_print.proofs.Dashes.{dashes}
use Rattle.tokei_print.proofs.layout.Layout.name_line.Goals as goal

pub returns : goal.returns
returns c =
    let name = c.args.name.now in
    let n = c.args.self.now.columns - 4 - length name in
    let stroke : c.as_str-dashes.result.now ≡ replicate n dash =
    c.as_str-dashes.ensures.value ∙ c.in_ok-dashes.ensures.bytes ∙ ap (λ k. repeat k (dash ∷ [])) c.saturating_sub.ensures ∙ dashes n in
    let long = codes "-- " ++ (name ++ (space ∷ (replicate n dash ++ newline))) in
    subst (λ b. IfOk c.format-2.result (λ s. string_bytes s ≡ b))
    (ap (λ t. codes "-- " ++ (name ++ (space ∷ (t ++ newline)))) stroke
    ∙ ap (λ (v : Bool). if v then space ∷ (name ++ newline) else long) (sym c.if-first.false))
    c.format-2.ensures.ok
