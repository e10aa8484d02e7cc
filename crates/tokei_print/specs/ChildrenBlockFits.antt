-- When the sums that the rows of the languages inside another show fit the code's numbers.
use Rattle.tokei_languages.specs.Summaries.{language_summary}
use Rattle.tokei_languages.specs.Values.{LanguageValue}
use Rattle.tokei_print.specs.LinesFit.{LinesFit}
pub use Rattle.tokei_print.specs.ChildrenFit.{ChildrenFit}

-- the lines of each child's row and of the subtotal are at most the greatest `usize`
pub record ChildrenBlockFits (language : LanguageValue) : Type 0 where
  pub children : ChildrenFit language.children
  pub subtotal : LinesFit (language_summary language)
