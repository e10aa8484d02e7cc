-- Further extensions change no token, no name and no language on which children fall back.
use Rattle.std.proofs.Common.{◌≡◌, ℕ, ◌+◌, ◌&&◌, ◌||◌, List, [], ◌∷◌, ◌++◌, refl, ◌∙◌, ap}
use Rattle.std.specs.List.{list_all, list_any}
use Rattle.std.specs.Prelude.{bytes_eq}
use Rattle.tokei_table_rules.specs.Extended.{gained, listed_for, extended_from}
use Rattle.tokei_table_rules.specs.Fallbacks.{has_key, has_fallbacks}
use Rattle.tokei_table_rules.specs.Families.{family_of, needed_keys}
use Rattle.tokei_table_rules.specs.RowNames.{shares_name, names_twice, is_total}
use Rattle.tokei_table_rules.specs.Tokens.{has_tokens}
use Rattle.tokei_table_row.specs.Row.{Row}

module _ (adds : List (ℕ × List (List ℕ))) where
  pub same_tokens : (rs : List Row) (n : ℕ) (known : List (List ℕ))
      → list_all has_tokens (extended_from n known adds rs) ≡ list_all has_tokens rs
  unfolding has_tokens
  same_tokens [] n known = refl
  same_tokens (r ∷ rs) n known =
      ap (λ b. has_tokens r && b) (same_tokens rs (n + 1) (known ++ gained known (listed_for n adds)))

  same_sharing : (s : Row) (rs : List Row) (n : ℕ) (known : List (List ℕ))
      → list_any (shares_name s) (extended_from n known adds rs) ≡ list_any (shares_name s) rs
  same_sharing s [] n known = refl
  same_sharing s (r ∷ rs) n known =
      ap (λ b. shares_name s r || b) (same_sharing s rs (n + 1) (known ++ gained known (listed_for n adds)))

  pub same_names : (rs : List Row) (n : ℕ) (known : List (List ℕ))
      → names_twice (extended_from n known adds rs) ≡ names_twice rs
  same_names [] n known = refl
  same_names (r ∷ rs) n known =
      ap (λ b. b || names_twice (extended_from (n + 1) (known ++ gained known (listed_for n adds)) adds rs))
      (same_sharing r rs (n + 1) (known ++ gained known (listed_for n adds)))
      ∙ ap (λ b. list_any (shares_name r) rs || b) (same_names rs (n + 1) (known ++ gained known (listed_for n adds)))

  pub same_totals : (rs : List Row) (n : ℕ) (known : List (List ℕ))
      → list_any is_total (extended_from n known adds rs) ≡ list_any is_total rs
  same_totals [] n known = refl
  same_totals (r ∷ rs) n known =
      ap (λ b. is_total r || b) (same_totals rs (n + 1) (known ++ gained known (listed_for n adds)))

  same_has_key : (rs : List Row) (n : ℕ) (known : List (List ℕ)) (key : List ℕ)
      → has_key (extended_from n known adds rs) key ≡ has_key rs key
  same_has_key [] n known key = refl
  same_has_key (r ∷ rs) n known key =
      ap (λ b. bytes_eq r.key key || b) (same_has_key rs (n + 1) (known ++ gained known (listed_for n adds)) key)

  same_needs : (all : List Row) (m : ℕ) (seen : List (List ℕ)) (ks : List (List ℕ))
      → list_all (has_key (extended_from m seen adds all)) ks ≡ list_all (has_key all) ks
  same_needs all m seen [] = refl
  same_needs all m seen (k ∷ ks) =
      ap (λ b. b && list_all (has_key (extended_from m seen adds all)) ks) (same_has_key all m seen k)
      ∙ ap (λ b. has_key all k && b) (same_needs all m seen ks)

  pub same_fallbacks : (all : List Row) (m : ℕ) (seen : List (List ℕ)) (rs : List Row) (n : ℕ) (known : List (List ℕ))
      → list_all (has_fallbacks (extended_from m seen adds all)) (extended_from n known adds rs)
      ≡ list_all (has_fallbacks all) rs
  same_fallbacks all m seen [] n known = refl
  same_fallbacks all m seen (r ∷ rs) n known =
      ap (λ b. b && list_all (has_fallbacks (extended_from m seen adds all))
      (extended_from (n + 1) (known ++ gained known (listed_for n adds)) adds rs))
      (same_needs all m seen (needed_keys (family_of r.key)))
      ∙ ap (λ b. has_fallbacks all r && b) (same_fallbacks all m seen rs (n + 1)
      (known ++ gained known (listed_for n adds)))
