-- The items of a list that a loop has come by, and one more.
use Rattle.std.proofs.Common.{◌≡◌, ◌∙◌, ℕ, suc, ◌+◌, ◌<◌, ◌≤◌, List, [], ◌∷◌, ◌++◌, Bool, String, cond, false, filter, flat_map, get_or, length, string_bytes, take, true}
use Rattle.std.proofs.Common.{ap, arith, rules, sym, take_all}
use Rattle.std.proofs.lemmas.List.{append-nil, map-append}
use Rattle.std.proofs.lemmas.List.Concat.{flat_map-append}
use Rattle.std.proofs.lemmas.List.Elements.{All-push, All-same, filter-append}
use Rattle.std.proofs.Math.Seq.{take-suc}
use Rattle.std.specs.Global.{Global}
use Rattle.tokei_folders.specs.Tree.{Tree}
use Rattle.tokei_invocation.specs.Roots.{AllStand, stands}
use Rattle.tokei_walk.specs.Walks.{texts_of}

more : (i : ℕ) → suc i ≡ i + 1
more i = omega arith

-- the first items and the next one
pub taken_next : {A : Type 0} (xs : List A) (i : ℕ) (x : A) → i < length xs → x ≡ get_or xs i x → take i xs ++ x ∷ [] ≡ take (i + 1) xs
taken_next {A} xs i x within is =
    ap (λ (y : A). take i xs ++ y ∷ []) is ∙ sym (take-suc xs i x within) ∙ ap (λ (k : ℕ). take k xs) (more i)

-- the texts of the first ones and of the next one
module _ (ts : List (String Global)) (i : ℕ) where
  module _ (r : String Global) (within : i < length ts) (is : r ≡ get_or ts i r) where
    pub texts_next : texts_of (take i ts) ++ string_bytes r ∷ [] ≡ texts_of (take (i + 1) ts)
    texts_next = sym (map-append string_bytes (take i ts) (r ∷ [])) ∙ ap texts_of (taken_next ts i r within is)

    -- something stands at each of them
    pub stand_next : (t : Tree) → AllStand t (texts_of (take i ts)) → stands t (string_bytes r) ≡ true → AllStand t (texts_of (take (i + 1) ts))
    stand_next t before here =
        let Stands : List ℕ → Type 0 = λ root. stands t root ≡ true in
        All-same Stands (texts_of (take (i + 1) ts)) (texts_of (take i ts) ++ string_bytes r ∷ []) (sym texts_next)
        (All-push Stands (texts_of (take i ts)) (string_bytes r) before here)

  pub texts_all : length ts ≤ i → texts_of (take i ts) ≡ texts_of ts
  texts_all over = ap texts_of (take_all i ts over)

  pub stand_all : (t : Tree) → AllStand t (texts_of (take i ts)) → length ts ≤ i → AllStand t (texts_of ts)
  stand_all t before over =
      let Stands : List ℕ → Type 0 = λ root. stands t root ≡ true in
      All-same Stands (texts_of ts) (texts_of (take i ts)) (sym (texts_all over)) before

-- what stands of each text, one behind another, with that of the next one
pub joined_next : (f : List ℕ → List ℕ) (ts : List (String Global)) (i : ℕ) (r : String Global) (old new w : List ℕ) → i < length ts → r ≡ get_or ts i r
    → old ≡ flat_map f (texts_of (take i ts)) → w ≡ string_bytes r → new ≡ old ++ f w → new ≡ flat_map f (texts_of (take (i + 1) ts))
joined_next f ts i r old new w within is before shown pushed =
    let whole : f (string_bytes r) ≡ flat_map f (string_bytes r ∷ []) = search rules in
    pushed ∙ ap (λ (xs : List ℕ). xs ++ f w) before
    ∙ ap (λ (xs : List ℕ). flat_map f (texts_of (take i ts)) ++ xs) (ap f shown ∙ whole)
    ∙ sym (flat_map-append f (texts_of (take i ts)) (string_bytes r ∷ [])) ∙ ap (flat_map f) (texts_next ts i r within is)

-- of the texts so far those that pass a test, and the next one
module _ (passes : List ℕ → Bool) (texts : List (List ℕ)) (text : List ℕ) where
  pub filter_keeps : passes text ≡ true → filter passes (texts ++ text ∷ []) ≡ filter passes texts ++ text ∷ []
  filter_keeps e = filter-append passes texts (text ∷ []) ∙ ap (λ (b : Bool). filter passes texts ++ cond b (text ∷ []) []) e

  pub filter_drops : passes text ≡ false → filter passes (texts ++ text ∷ []) ≡ filter passes texts
  filter_drops e =
      filter-append passes texts (text ∷ []) ∙ ap (λ (b : Bool). filter passes texts ++ cond b (text ∷ []) []) e ∙ append-nil (filter passes texts)
