-- When the sums that the rows of all languages show fit the code's numbers.
use Rattle.std.specs.Prelude.{◌≡◌, ℕ, Bool, true, false, List, [], ◌∷◌, ⊤}
use Rattle.tokei_languages.specs.Values.{LanguageValue}
use Rattle.tokei_print.specs.FileRows.{with_blocks}
use Rattle.tokei_print.specs.FilesFit.{FileBlocksFit}
use Rattle.tokei_print.specs.LinesFit.{LinesFit}
use Rattle.tokei_print.specs.ChildrenBlockFits.{ChildrenBlockFits}
use Rattle.tokei_print.specs.NameOrder.{in_order}
use Rattle.tokei_print.specs.Results.{group_of, shows_children}

-- the sums of a language's rows are at most the greatest `usize`
pub record LanguageFits (listed compact sorted : Bool) (language : LanguageValue) : Type 0 where
  pub row : LinesFit language.counts
  pub children : shows_children compact language ≡ true → ChildrenBlockFits language
  pub files : listed ≡ true → FileBlocksFit (with_blocks compact (in_order sorted language.reports))

-- the sums of each language's rows fit
abbrev pub LanguagesFit : Bool → Bool → Bool → List (ℕ × LanguageValue) → Type 0
LanguagesFit listed compact sorted [] = ⊤
LanguagesFit listed compact sorted (e ∷ es) =
    LanguageFits listed compact sorted e.1 × LanguagesFit listed compact sorted es

-- the sums of both groups' rows fit: of the languages without shown children, and of those with
-- them
pub record ResultsFit (listed compact sorted : Bool)
    (languages : List (ℕ × LanguageValue)) : Type 0 where
  pub alone : LanguagesFit listed compact sorted (group_of compact false languages)
  pub others : LanguagesFit listed compact sorted (group_of compact true languages)
