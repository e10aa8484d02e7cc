-- Names that were met in the rows so far, by which a name of two rows is found.
use Rattle.std.specs.Prelude.{◌≡◌, ℕ, Bool, ◌||◌, List, map, is_some}
use Rattle.std.specs.Borrow.{Bor}
use Rattle.std.specs.BTreeMap.{BTreeMap, get_by}
use Rattle.std.specs.Cmp.Lexicographic.{slice_cmp}
use Rattle.std.specs.Ordering.{nat_cmp}
use Rattle.tokei_table_row.specs.Bytes.{holds}
use Rattle.tokei_table_row.specs.Row.{Row}

-- Whether the name was met.
abbrev pub is_met : {X : Type 0} → BTreeMap (Bor (List ℕ)) X → List ℕ → Bool
is_met names name = is_some (get_by (λ k. slice_cmp nat_cmp name k.now) names)

-- Whether the key or the name was met.
abbrev pub was_met : (List ℕ → Bool) → Row → Bool
was_met met row = met row.key || met row.name

-- The bytes of borrowed texts.
abbrev pub words_of : List (Bor (List ℕ)) → List (List ℕ)
words_of texts = map (λ t. t.now) texts

-- The names that were met are the texts of the list.
abbrev pub AreMet : {X : Type 0} → BTreeMap (Bor (List ℕ)) X → List (List ℕ) → Type 0
AreMet names texts = (q : List ℕ) → is_met names q ≡ holds texts q
