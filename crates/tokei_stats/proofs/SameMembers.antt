-- Counts and statistics whose members are the same are the same.
use Rattle.std.proofs.Common.{◌≡◌, ap, ◌∙◌}
use Rattle.tokei_stats.specs.Statistics.{Counts, Blobs}
use Rattle.tokei_stats.specs.Statistics.Statistics.{node}

pub same_counts : (a b : Counts) → a.blanks ≡ b.blanks → a.code ≡ b.code → a.comments ≡ b.comments → a ≡ b
same_counts a b e f g =
    ap (λ x. record { blanks = x; code = a.code; comments = a.comments }) e
    ∙ ap (λ x. record { blanks = b.blanks; code = x; comments = a.comments }) f
    ∙ ap (λ x. record { blanks = b.blanks; code = b.code; comments = x }) g

pub same_node : (n m : Counts) (bs cs : Blobs) → n ≡ m → bs ≡ cs → node n bs ≡ node m cs
same_node n m bs cs e f = ap (λ x. node x bs) e ∙ ap (node m) f
