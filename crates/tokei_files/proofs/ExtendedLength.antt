-- Languages that gain extensions stay as many.
use Rattle.std.proofs.Common.{◌≡◌, ℕ, suc, ◌+◌, List, [], ◌∷◌, ◌++◌, length, refl, ap, Option, Result, IfOk, IfSome, ◌<◌, subst, ◌∙◌}
use Rattle.tokei_table.specs.Row.{Row}
use Rattle.tokei_table.specs.Extended.{gained, listed_for, extended_from, extended, extensions_of}

module _ (adds : List (ℕ × List (List ℕ))) where
  pub same_length : (rs : List Row) (n : ℕ) (known : List (List ℕ)) → length (extended_from n known adds rs) ≡ length rs
  same_length [] n known = refl
  same_length (r ∷ rs) n known = ap suc (same_length rs (n + 1) (known ++ gained known (listed_for n adds)))

  -- a language of the extended table is one of the table
  pub of_both : {E : Type 0} (rows grown : List Row) (r : Result (Option ℕ) E)
      → grown ≡ extended rows adds → IfOk r (λ o. IfSome o (λ l. l < length grown))
      → IfOk r (λ o. IfSome o (λ l. l < length rows))
  of_both rows grown r is h = subst (λ (n : ℕ). IfOk r (λ o. IfSome o (λ l. l < n))) (ap length is ∙ same_length rows 0 (extensions_of rows)) h
