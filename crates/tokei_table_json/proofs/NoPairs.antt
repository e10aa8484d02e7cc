-- Lists that are pairs, and lists that are none.
use Rattle.std.proofs.Common.{◌≡◌, ◌<◌, ◌≤◌, List, [], ◌∷◌, length, get_or, false, ◌&&◌, refl, ap, ◌∙◌, arith}
use Rattle.json.specs.Value.{value_view, items_view}
use Rattle.json.specs.declared.value.Value.{Value}
use Rattle.tokei_json_tree.specs.TreeData.{data_of, items_data}
use Rattle.tokei_table_row.specs.Row.{Pair}
use Rattle.tokei_table_json.specs.Layout.{are_two_texts}
use Rattle.tokei_json_tree.specs.Shapes.{is_text}
use Rattle.tokei_table_json.specs.Rows.{text_of, two_texts, no_pair}

module _ {A : Type 0} where
  pub too_few : (vs : List (Value A)) → length vs < 2 → are_two_texts (items_data (items_view vs)) ≡ false
  too_few [] h = refl
  too_few (v ∷ []) h = refl
  too_few (v ∷ w ∷ vs) h = absurd (omega (arith, h))

  pub too_many : (vs : List (Value A)) → 3 ≤ length vs → are_two_texts (items_data (items_view vs)) ≡ false
  too_many [] h = absurd (omega (arith, h))
  too_many (v ∷ []) h = absurd (omega (arith, h))
  too_many (v ∷ w ∷ []) h = absurd (omega (arith, h))
  too_many (v ∷ w ∷ x ∷ vs) h = refl

  pub not_two : (vs : List (Value A)) → (length vs ≡ 2 → ⊥) → two_texts (items_data (items_view vs)) ≡ no_pair
  not_two [] h = refl
  not_two (v ∷ []) h = refl
  not_two (v ∷ w ∷ []) h = absurd (h refl)
  not_two (v ∷ w ∷ x ∷ vs) h = refl

  abbrev pub texts_in : Value A → Value A → Pair
  texts_in v w = record { opener = text_of (data_of (value_view v)); closer = text_of (data_of (value_view w)) }

  pub just_two : (vs : List (Value A)) (v w : Value A) → 2 ≤ length vs → length vs < 3 → v ≡ get_or vs 0 v → w ≡ get_or vs 1 w
      → texts_in v w ≡ two_texts (items_data (items_view vs))
  just_two [] v w few many e f = absurd (omega (arith, few))
  just_two (a ∷ []) v w few many e f = absurd (omega (arith, few))
  just_two (a ∷ b ∷ []) v w few many e f = ap (λ x. texts_in x w) e ∙ ap (texts_in a) f
  just_two (a ∷ b ∷ x ∷ vs) v w few many e f = absurd (omega (arith, many))

  -- a list of two is two texts where both of its values are
  pub both_texts : (vs : List (Value A)) (v w : Value A) → 2 ≤ length vs → length vs < 3 → v ≡ get_or vs 0 v → w ≡ get_or vs 1 w
      → (is_text (data_of (value_view v)) && is_text (data_of (value_view w))) ≡ are_two_texts (items_data (items_view vs))
  both_texts [] v w few many e f = absurd (omega (arith, few))
  both_texts (a ∷ []) v w few many e f = absurd (omega (arith, few))
  both_texts (a ∷ b ∷ []) v w few many e f =
      ap (λ x. is_text (data_of (value_view x)) && is_text (data_of (value_view w))) e
      ∙ ap (λ y. is_text (data_of (value_view a)) && is_text (data_of (value_view y))) f
  both_texts (a ∷ b ∷ x ∷ vs) v w few many e f = absurd (omega (arith, many))
