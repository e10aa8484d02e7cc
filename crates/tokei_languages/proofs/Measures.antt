-- Numbers that are added up over the entries of a map, and what a change of one entry adds to them.
use Rattle.std.proofs.Common.{◌≡◌, ℕ, ◌+◌, ◌==◌, Bool, true, false, cond, List, [], ◌∷◌, refl, ap, ◌∙◌, subst, arith, nat_lt}
use Rattle.std.proofs.lemmas.Bool.{eqb-true}
use Rattle.std.specs.Ordering.{nat_cmp, match_ordering}
use Rattle.std.specs.declared.cmp.Ordering.{Ordering}
use Rattle.std.specs.declared.cmp.Ordering.TheVariants.{Less, Equal, Greater}
use Rattle.tokei_languages.specs.Maps.{put_at, merged}

equal_by : (p q : Bool) → cond p Less (cond q Equal Greater) ≡ Equal → q ≡ true
equal_by true q h = cc
equal_by false true h = refl
equal_by false false h = cc

pub same_key : (k j : ℕ) → nat_cmp k j ≡ Equal → k ≡ j
same_key k j h = eqb-true k j (equal_by (nat_lt k j) (k == j) h)

module _ {S : Type 0} (w : ℕ → S → ℕ) where
  abbrev pub measure : List (ℕ × S) → ℕ
  measure [] = 0
  measure (e ∷ es) = w e.0 e.1 + measure es

  put_by : (f : S → S) (s : S) (o : Ordering) (k c : ℕ) (e : ℕ × S) (es : List (ℕ × S))
      → nat_cmp k e.0 ≡ o → ((t : S) → w k (f t) ≡ w k t + c) → w k s ≡ c
      → measure (put_at f s es k) ≡ measure es + c
      → measure (match_ordering o ((k, s) ∷ e ∷ es) ((e.0, f e.1) ∷ es) (e ∷ put_at f s es k)) ≡ measure (e ∷ es) + c
  put_by f s Less k c e es q h i more = omega (arith, i)
  put_by f s Equal k c e es q h i more =
      let grown : w e.0 (f e.1) ≡ w e.0 e.1 + c = subst (λ j. w j (f e.1) ≡ w j e.1 + c) (same_key k e.0 q) (h e.1) in
      omega (arith, grown)
  put_by f s Greater k c e es q h i more = omega (arith, more)

  -- an entry that grows by c, or is new with c
  pub put_measured : (f : S → S) (s : S) (es : List (ℕ × S)) (k c : ℕ) → ((t : S) → w k (f t) ≡ w k t + c) → w k s ≡ c
      → measure (put_at f s es k) ≡ measure es + c
  put_measured f s [] k c h i = omega (arith, i)
  put_measured f s (e ∷ es) k c h i = put_by f s (nat_cmp k e.0) k c e es refl h i (put_measured f s es k c h i)

-- maps whose values are joined
pub merged_measured : {S : Type 0} (w : S → ℕ) (join : S → S → S) → ((s t : S) → w (join s t) ≡ w s + w t)
    → (es fs : List (ℕ × S)) → measure (λ k s. w s) (merged join es fs) ≡ measure (λ k s. w s) es + measure (λ k s. w s) fs
merged_measured w join h es [] = omega arith
merged_measured w join h es (f ∷ fs) =
    let more = merged_measured w join h (put_at (λ s. join s f.1) f.1 es f.0) fs in
    let one = put_measured (λ k s. w s) (λ s. join s f.1) f.1 es f.0 (w f.1) (λ t. h t f.1) refl in
    omega (arith, more, one)
