-- A list that a loop puts together, part behind part: what is there so far, and what is left.
use Rattle.std.proofs.Common.{◌≡◌, ℕ, ◌+◌, ◌<◌, ◌≤◌, List, [], ◌∷◌, ◌++◌, Bool, true, false, cond, length, get_or, drop, filter, map, append_assoc, sym, ap, ◌∙◌}
use Rattle.std.proofs.lemmas.List.{append-nil, drop_all, drop_more}

module _ {Z : Type 0} (done whole : List Z) where
  pub none_yet : done ≡ [] → done ++ whole ≡ whole
  none_yet e = ap (λ t. t ++ whole) e

  pub one_more : (longer part left behind : List Z) → done ++ left ≡ whole → left ≡ part ++ behind → longer ≡ done ++ part → longer ++ behind ≡ whole
  one_more longer part left behind e f g =
      ap (λ t. t ++ behind) g ∙ append_assoc done part behind ∙ ap (λ t. done ++ t) (sym f) ∙ e

  pub no_more : (left : List Z) → done ++ left ≡ whole → left ≡ [] → done ≡ whole
  no_more left e f = sym (append-nil done) ∙ ap (λ t. done ++ t) (sym f) ∙ e

-- what is left of a list, seen element by element
module _ {X Y : Type 0} (seen : X → Y) (xs : List X) (i : ℕ) (x : X) (within : i < length xs) (is : x ≡ get_or xs i x) where
  from_element : drop i xs ≡ x ∷ drop (i + 1) xs
  from_element = drop_more xs i x within ∙ ap (λ y. y ∷ drop (i + 1) xs) (sym is)

  pub one_seen : map seen (drop i xs) ≡ seen x ∷ map seen (drop (i + 1) xs)
  one_seen = ap (map seen) from_element

  -- and of those elements that pass a test
  module _ (test : Y → Bool) where
    by_test : (b : Bool) → test (seen x) ≡ b
        → filter test (map seen (drop i xs)) ≡ cond b (seen x ∷ filter test (map seen (drop (i + 1) xs))) (filter test (map seen (drop (i + 1) xs)))
    by_test b e =
        ap (filter test) one_seen
        ∙ ap (λ v. cond v (seen x ∷ filter test (map seen (drop (i + 1) xs))) (filter test (map seen (drop (i + 1) xs)))) e

    pub one_kept : test (seen x) ≡ true → filter test (map seen (drop i xs)) ≡ seen x ∷ filter test (map seen (drop (i + 1) xs))
    one_kept e = by_test true e

    pub one_passed : test (seen x) ≡ false → filter test (map seen (drop i xs)) ≡ filter test (map seen (drop (i + 1) xs))
    one_passed e = by_test false e

module _ {X Y : Type 0} (seen : X → Y) (xs : List X) (i : ℕ) (past : length xs ≤ i) where
  pub none_seen : map seen (drop i xs) ≡ []
  none_seen = ap (map seen) (drop_all i xs past)

  pub none_kept : (test : Y → Bool) → filter test (map seen (drop i xs)) ≡ []
  none_kept test = ap (filter test) none_seen

-- four parts, one behind the other, behind what was there
pub four_behind : {Z : Type 0} (b0 b1 b2 b3 b4 w h r t : List Z)
    → b1 ≡ b0 ++ w → b2 ≡ b1 ++ h → b3 ≡ b2 ++ r → b4 ≡ b3 ++ t → b4 ≡ b0 ++ (w ++ (h ++ (r ++ t)))
four_behind b0 b1 b2 b3 b4 w h r t e1 e2 e3 e4 =
    e4 ∙ ap (λ x. x ++ t) (e3 ∙ ap (λ x. x ++ r) (e2 ∙ ap (λ x. x ++ h) e1))
    ∙ append_assoc ((b0 ++ w) ++ h) r t ∙ append_assoc (b0 ++ w) h (r ++ t) ∙ append_assoc b0 w (h ++ (r ++ t))
