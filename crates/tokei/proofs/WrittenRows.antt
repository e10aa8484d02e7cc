-- Rows that are written one behind the other.
use Rattle.std.proofs.Common.{◌≡◌, ℕ, List, [], ◌∷◌, ◌++◌, Option, refl, sym, ap, ◌∙◌, append_assoc, append-nil, subst}
use Rattle.std.proofs.KnownBytes.{Appends-nil, Appends-trans}
use Rattle.std.proofs.lemmas.Grind.{flat_map-append}
use Rattle.std.specs.List.{flat_map}
use Rattle.std.specs.Io.KnownBytes.{Appends}

module _ {A : Type 0} (row : A → List ℕ) where
  -- the rows of those that aren't left stand behind what stood there
  pub record RowsSoFar (all left : List A) (old new : Option (List ℕ)) : Type 0 where
    pub first : List A
    pub are : all ≡ first ++ left
    pub appended : Appends old new (flat_map row first)

  pub no_row_yet : (all : List A) (o : Option (List ℕ)) → RowsSoFar all all o o
  no_row_yet all o = record { first = []; are = refl; appended = Appends-nil o }

  -- one more
  pub one_row_more : (all left rest : List A) (a : A) (old mid new : Option (List ℕ)) → RowsSoFar all left old mid → left ≡ a ∷ rest → Appends mid new (row a)
      → RowsSoFar all rest old new
  one_row_more all left rest a old mid new h is one = record {
    first = h.first ++ a ∷ [];
    are = h.are ∙ ap (λ (l : List A). h.first ++ l) is ∙ sym (append_assoc h.first (a ∷ []) rest);
    appended =
        subst (Appends old new) (ap (λ (x : List ℕ). flat_map row h.first ++ x) (sym (append-nil (row a))) ∙ sym (flat_map-append row h.first (a ∷ [])))
        (Appends-trans old mid new (flat_map row h.first) (row a) h.appended one);
  }

  -- all of them
  pub all_rows : (all left : List A) (old new : Option (List ℕ)) → RowsSoFar all left old new → left ≡ [] → Appends old new (flat_map row all)
  all_rows all left old new h none =
      subst (λ (l : List A). Appends old new (flat_map row l)) (sym (h.are ∙ ap (λ (l : List A). h.first ++ l) none ∙ append-nil h.first)) h.appended
