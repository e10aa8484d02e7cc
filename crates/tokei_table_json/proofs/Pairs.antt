-- Pairs of the same texts.
use Rattle.std.proofs.Common.{◌≡◌, ℕ, List}
use Rattle.tokei_table_row.specs.Row.{Pair}

pair : List ℕ → List ℕ → Pair
pair a b = record { opener = a; closer = b }

same : {a b x y : List ℕ} → a ≡ x → b ≡ y → pair a b ≡ pair x y
same e f = cc

pub same_pair : (p q : Pair) → p.opener ≡ q.opener → p.closer ≡ q.closer → p ≡ q
unfolding pair
same_pair p q e f = same e f
