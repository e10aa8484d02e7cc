-- Languages whose members are the same are the same.
use Rattle.std.proofs.Common.{◌≡◌, ap, ◌∙◌}
use Rattle.tokei_languages.specs.Values.{LanguageValue}

pub same_language : (a b : LanguageValue) → a.counts ≡ b.counts → a.reports ≡ b.reports → a.children ≡ b.children → a.inaccurate ≡ b.inaccurate → a ≡ b
same_language a b e f g h =
    ap (λ x. record { counts = x; reports = a.reports; children = a.children; inaccurate = a.inaccurate }) e
    ∙ ap (λ x. record { counts = b.counts; reports = x; children = a.children; inaccurate = a.inaccurate }) f
    ∙ ap (λ x. record { counts = b.counts; reports = b.reports; children = x; inaccurate = a.inaccurate }) g
    ∙ ap (λ x. record { counts = b.counts; reports = b.reports; children = b.children; inaccurate = x }) h
