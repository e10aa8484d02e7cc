-- What is put under names is no deeper than what it was taken from.
use Rattle.std.proofs.Common.{ℕ, ◌≤◌, List, [], ◌∷◌, arith, Ordering, Less, Equal, Greater, nat_cmp, map, Bor}
use Rattle.std.specs.BTreeMap.{insert_entry}
use Rattle.std.specs.Prelude.{max}
use Rattle.std.specs.Cmp.Lexicographic.{slice_cmp}
use Rattle.std.specs.List.{AllByRecursion}
use Rattle.std.specs.Map.{values_of}
use Rattle.std.specs.Ordering.{match_ordering}
use Rattle.tokei_languages.specs.Names.{name_in}
use Rattle.tokei_json.specs.Tokens.{named}
use Rattle.tokei_table.specs.Row.{Row}
use denote.Param.Weighed.{most}

module _ {T : Type 0} (μ : T → ℕ) (m : ℕ) where
  -- no value's measure passes m
  abbrev pub AreWithin : List (List ℕ × T) → Type 0
  AreWithin es = AllByRecursion (λ e. μ e.1 ≤ m) es

  within_by : (o : Ordering) (k : List ℕ) (v : T) (e : List ℕ × T) (es more : List (List ℕ × T)) → μ v ≤ m → μ e.1 ≤ m → AreWithin es → AreWithin more
      → AreWithin (match_ordering o ((k, v) ∷ e ∷ es) ((e.0, v) ∷ es) (e ∷ more))
  within_by Less k v e es more new here rest later = (new, (here, rest))
  within_by Equal k v e es more new here rest later = (new, rest)
  within_by Greater k v e es more new here rest later = (here, later)

  insert_within : (es : List (List ℕ × T)) (k : List ℕ) (v : T) → μ v ≤ m → AreWithin es → AreWithin (insert_entry (slice_cmp nat_cmp) es k v)
  insert_within [] k v new h = (new, tt)
  insert_within (e ∷ es) k v new h = within_by (slice_cmp nat_cmp k e.0) k v e es (insert_entry (slice_cmp nat_cmp) es k v) new h.0 h.1 (insert_within es k v new h.1)

  pub named_within : (rows : List Row) (es : List (ℕ × T)) (found : List (List ℕ × T)) → most μ (values_of es) ≤ m → AreWithin found → AreWithin (named rows es found)
  named_within rows [] found h k = k
  named_within rows (e ∷ es) found h k =
      let both : max (μ e.1) (most μ (values_of es)) ≤ m = h in
      named_within rows es (insert_entry (slice_cmp nat_cmp) found (name_in rows e.0) e.1) (omega arith) (insert_within found (name_in rows e.0) e.1 (omega arith) k)

  -- of a map of references
  pub AreWithin-seen : (es : List (Bor (List ℕ) × Bor T)) → AreWithin (map (λ e. (e.0.now, e.1.now)) es) → AllByRecursion (λ e. μ e.1.now ≤ m) es
  AreWithin-seen [] h = tt
  AreWithin-seen (e ∷ es) h = (h.0, AreWithin-seen es h.1)
