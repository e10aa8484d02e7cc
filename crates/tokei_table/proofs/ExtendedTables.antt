-- Further extensions leave a table well formed.
use Rattle.std.proofs.Common.{◌≡◌, ℕ, suc, ◌+◌, ◌<◌, List, [], ◌∷◌, ◌++◌, length, map, drop, get_or, refl, sym, ◌∙◌, ap, subst, add-one, append_assoc, drop-cons}
use Rattle.std.proofs.lemmas.List.{append-nil, map-append}
use Rattle.std.specs.List.Sorted.{IsStrictlySortedBy}
use Rattle.std.specs.Ordering.{nat_cmp}
use Rattle.std.specs.Cmp.Lexicographic.{slice_cmp}
use Rattle.tokei_table_rules.proofs.ExtendedRows.{same_tokens, same_names, same_totals, same_fallbacks}
use Rattle.tokei_table_rules.specs.Extended.{gained, listed_for, extended_from, extended, extensions_of, with_extensions}
use Rattle.tokei_table_rules.specs.RowNames.{keys_of}
use Rattle.tokei_table_row.specs.Row.{Row}
use Rattle.tokei_table.specs.WellFormed.{IsWellFormed}

-- what is left at a place is its item and what is left behind that
pub drop_here : {X : Type 0} (xs : List X) (i : ℕ) (x : X) → i < length xs → x ≡ get_or xs i x → drop i xs ≡ x ∷ drop (i + 1) xs
drop_here {X} xs i x l at =
    drop-cons xs i x l ∙ ap (λ (y : X). y ∷ drop (suc i) xs) (sym at) ∙ ap (λ (n : ℕ). x ∷ drop n xs) (sym (add-one i))

module _ (adds : List (ℕ × List (List ℕ))) where
  same_keys : (rs : List Row) (n : ℕ) (known : List (List ℕ)) → keys_of (extended_from n known adds rs) ≡ keys_of rs
  same_keys [] n known = refl
  same_keys (r ∷ rs) n known = ap (λ ks. r.key ∷ ks) (same_keys rs (n + 1) (known ++ gained known (listed_for n adds)))

  -- a step of a loop that extends rows
  pub one_more : {X : Type 0} (view : X → Row) (done xs : List X) (i : ℕ) (x extended_row : X) → i < length xs → x ≡ get_or xs i x
      → (known new_known : List (List ℕ)) (new : List X) (whole : List Row)
      → view extended_row ≡ with_extensions (view x) (gained known (listed_for i adds))
      → new_known ≡ known ++ gained known (listed_for i adds)
      → new ≡ done ++ extended_row ∷ []
      → map view done ++ extended_from i known adds (map view (drop i xs)) ≡ whole
      → map view new ++ extended_from (i + 1) new_known adds (map view (drop (i + 1) xs)) ≡ whole
  one_more view done xs i x extended_row l at known new_known new whole row more pushed kept =
      let behind = λ (ks : List (List ℕ)). extended_from (i + 1) ks adds (map view (drop (i + 1) xs)) in
      let all = known ++ gained known (listed_for i adds) in
      ap (λ ks. map view new ++ behind ks) more
      ∙ ap (λ ys. map view ys ++ behind all) pushed
      ∙ ap (λ rs. rs ++ behind all) (map-append view done (extended_row ∷ []))
      ∙ append_assoc (map view done) (view extended_row ∷ []) (behind all)
      ∙ ap (λ r. map view done ++ r ∷ behind all) row
      ∙ ap (λ ys. map view done ++ extended_from i known adds (map view ys)) (sym (drop_here xs i x l at))
      ∙ kept

  pub extended_well_formed : (rs : List Row) → IsWellFormed rs → IsWellFormed (extended rs adds)
  extended_well_formed rs w =
      let known = extensions_of rs in
      record {
        ordered = subst (IsStrictlySortedBy (slice_cmp nat_cmp)) (sym (same_keys rs 0 known)) w.ordered;
        tokens = same_tokens adds rs 0 known ∙ w.tokens;
        named_once = same_names adds rs 0 known ∙ w.named_once;
        no_total = same_totals adds rs 0 known ∙ w.no_total;
        fallbacks = same_fallbacks adds rs 0 known rs 0 known ∙ w.fallbacks;
      }

pub same_well_formed : (rs ss : List Row) → rs ≡ ss → IsWellFormed ss → IsWellFormed rs
same_well_formed rs ss e w = subst IsWellFormed (sym e) w

same_row : (r : Row) → with_extensions r [] ≡ r
same_row r = ap (λ es. record r { extensions = es }) (append-nil r.extensions)

same_rows : (rs : List Row) (n : ℕ) (known : List (List ℕ)) → extended_from n known [] rs ≡ rs
same_rows [] n known = refl
same_rows (r ∷ rs) n known =
    ap (λ s. s ∷ extended_from (n + 1) (known ++ []) [] rs) (same_row r)
    ∙ ap (λ ss. r ∷ ss) (same_rows rs (n + 1) (known ++ []))

-- a table that gains nothing
pub extended_by_none : (rs : List Row) (adds : List (ℕ × List (List ℕ))) → adds ≡ [] → extended rs adds ≡ rs
extended_by_none rs adds e = ap (extended rs) e ∙ same_rows rs 0 (extensions_of rs)
