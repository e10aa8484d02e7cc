-- The order of languages by a column is one, and a reversed list is seen reversed.
use Rattle.std.proofs.Common.{◌≡◌, ℕ, List, [], ◌∷◌, ◌++◌, nat_lt, map, reverse, refl, sym, ap, ◌∙◌}
use Rattle.std.proofs.lemmas.List.{reverse-append, map-append}
use Rattle.std.specs.Cmp.{IsStrictWeakOrder}
use Rattle.std.proofs.lemmas.List.Sorted.{IsStrictWeakOrder-flip, IsStrictWeakOrder-by_number}
use Rattle.tokei_languages.specs.Values.{LanguageValue}
use Rattle.tokei_options.specs.declared.sort.Sort.{Sort}
use Rattle.tokei_print.specs.Sorted.{count_of, language_goes_first}

pub languages_rank : (sort : Sort) → IsStrictWeakOrder (λ (a b : ℕ × LanguageValue). language_goes_first sort a.1 b.1)
languages_rank sort =
    IsStrictWeakOrder-flip (λ (a b : ℕ × LanguageValue). nat_lt (count_of sort a.1) (count_of sort b.1))
    (IsStrictWeakOrder-by_number (λ (a : ℕ × LanguageValue). count_of sort a.1))

pub map-reverse : {X Y : Type 0} (f : X → Y) (xs : List X) → map f (reverse xs) ≡ reverse (map f xs)
map-reverse f [] = refl
map-reverse f (x ∷ xs) =
    ap (map f) (reverse-append (x ∷ []) xs) ∙ map-append f (reverse xs) (x ∷ [])
    ∙ ap (λ l. l ++ f x ∷ []) (map-reverse f xs) ∙ sym (reverse-append (f x ∷ []) (map f xs))
