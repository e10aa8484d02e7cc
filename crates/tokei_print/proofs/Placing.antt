-- Reports that are placed by their names, one after the other, are stably sorted.
use Rattle.std.proofs.Common.{◌≡◌, Bool, true, false, List, [], ◌∷◌, if◌then◌else◌, refl, sym, ap, ◌∙◌}
use Rattle.std.proofs.lemmas.Bool.{false≢true}
use Rattle.std.specs.Cmp.{IsStrictWeakOrder}
use Rattle.tokei_languages.proofs.Ranks.{ranks}
use Rattle.tokei_languages.specs.Sorting.{placed as placed_first, puts_first, stably_sorted}
use Rattle.tokei_options.specs.declared.sort.Sort.TheVariants.{Files}
use Rattle.tokei_print.specs.NameOrder.{placed, placed_onto}
use Rattle.tokei_stats.specs.Reports.{ReportValue}

module _ {X : Type 0} (before : X → X → Bool) (o : IsStrictWeakOrder before) where
  -- behind those that it ties with
  abbrev placed_last : X → List X → List X
  placed_last x [] = x ∷ []
  placed_last x (y ∷ ys) = if before x y then x ∷ y ∷ ys else (y ∷ placed_last x ys)

  through : (x y z : X) (b : Bool) → before z x ≡ true → before y z ≡ true → before y x ≡ b → b ≡ true
  through x y z true e f g = refl
  through x y z false e f g = absurd (false≢true (sym (o.chain y x z g (o.one_way z x e)) ∙ f))

  commute_by : (p q : Bool) (x y z : X) (zs : List X) → before z x ≡ p → before y z ≡ q
      → placed_last y (placed_first before x zs) ≡ placed_first before x (placed_last y zs)
      → placed_last y (if p then z ∷ placed_first before x zs else (x ∷ z ∷ zs))
      ≡ placed_first before x (if q then y ∷ z ∷ zs else (z ∷ placed_last y zs))
  commute_by true true x y z zs e f h = let g : before y x ≡ true = through x y z (before y x) e f refl in rw (f, g, e) refl
  commute_by true false x y z zs e f h = rw (f, e) (ap (λ l. z ∷ l) h)
  commute_by false true x y z zs e f h = rw (f, e) refl
  commute_by false false x y z zs e f h = let g : before y x ≡ false = o.chain y z x f e in rw (g, f, e) refl

  -- it doesn't matter which of two is placed first
  commute : (x y : X) (zs : List X) → placed_last y (placed_first before x zs) ≡ placed_first before x (placed_last y zs)
  commute x y [] = refl
  commute x y (z ∷ zs) = commute_by (before z x) (before y z) x y z zs refl refl (commute x y zs)

is_last : (r : ReportValue) (rs : List ReportValue) → placed r rs ≡ placed_last (puts_first Files) (ranks Files) r rs
is_last r [] = refl
is_last r (s ∷ rs) = ap (λ l. if puts_first Files r s then r ∷ s ∷ rs else (s ∷ l)) (is_last r rs)

first_or_last : (r s : ReportValue) (rs : List ReportValue)
    → placed s (placed_first (puts_first Files) r rs) ≡ placed_first (puts_first Files) r (placed s rs)
first_or_last r s rs =
    is_last s (placed_first (puts_first Files) r rs) ∙ commute (puts_first Files) (ranks Files) r s rs
    ∙ ap (placed_first (puts_first Files) r) (sym (is_last s rs))

first_of_all : (r : ReportValue) (done rs : List ReportValue)
    → placed_onto (placed_first (puts_first Files) r done) rs ≡ placed_first (puts_first Files) r (placed_onto done rs)
first_of_all r done [] = refl
first_of_all r done (s ∷ rs) = ap (λ l. placed_onto l rs) (first_or_last r s done) ∙ first_of_all r (placed s done) rs

pub placed_sorted : (rs : List ReportValue) → placed_onto [] rs ≡ stably_sorted (puts_first Files) rs
placed_sorted [] = refl
placed_sorted (r ∷ rs) = first_of_all r [] rs ∙ ap (placed_first (puts_first Files) r) (placed_sorted rs)
