-- The rows of languages.
use Rattle.std.proofs.Common.{◌≡◌, ℕ, List, [], ◌∷◌, Bool, true, length, refl, arith}
use Rattle.std.proofs.lemmas.Bool.Decides.{nat_tests}
use Rattle.std.specs.Prelude.{◌==◌}
use Rattle.tokei_languages.specs.Values.{LanguageValue}
use Rattle.tokei_print.specs.declared.layout.Layout.{Layout}
use Rattle.tokei_print.specs.Results.{language_blocks}

-- no language's rows are empty
pub no_blocks : (layout : Layout) (names : ℕ → List ℕ) (compact sorted : Bool) (languages : List (ℕ × LanguageValue))
    → (length (language_blocks layout names compact sorted true languages) == 0) ≡ (length languages == 0)
no_blocks layout names compact sorted [] = refl
no_blocks layout names compact sorted (e ∷ es) = grind (arith, nat_tests)
