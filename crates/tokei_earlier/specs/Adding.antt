-- Earlier results that are added to languages.
use Rattle.std.specs.Prelude.{◌≡◌, ℕ, List, Ok}
use Rattle.tokei_languages.specs.Merging.{merged_languages, MergeFits}
use Rattle.tokei_languages.specs.Values.{LanguageValue}
use Rattle.tokei_table.specs.Row.{Row}
use Rattle.tokei_earlier.specs.Outcome.{outcome_of_bytes}

-- the languages of the bytes were added, and no count passed the greatest `usize`
pub record IsAdded (rows : List Row) (old new : List (ℕ × LanguageValue))
    (bytes : List ℕ) : Type 0 where
  pub read : List (ℕ × LanguageValue)
  pub accepted : outcome_of_bytes rows bytes ≡ Ok read
  pub merged : new ≡ merged_languages old read
  pub fits : MergeFits old read

-- the bytes are languages with which a count passes the greatest `usize`
pub record PassesUsize (rows : List Row) (old : List (ℕ × LanguageValue))
    (bytes : List ℕ) : Type 0 where
  pub read : List (ℕ × LanguageValue)
  pub accepted : outcome_of_bytes rows bytes ≡ Ok read
  pub past : ¬ MergeFits old read
