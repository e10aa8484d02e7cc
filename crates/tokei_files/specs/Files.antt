-- What a run counts of a file: the language in which it counts, if in any, and when its statistics
-- fit.
use Rattle.std.specs.Prelude.{ℕ, ◌==◌, Bool, true, List, [], ◌∷◌, Option, Some, None, option_and_then, IfSome, if◌then◌else◌, ⊤}
use Rattle.std.specs.List.{list_any}
use Rattle.tokei_stats.specs.Overflow.{Fits}
use Rattle.tokei_table.specs.Row.{Row}
use Rattle.tokei_walk.specs.declared.kept_file.KeptFile.{KeptFile}
use Rattle.tokei_folders.specs.Tree.{Tree}
use Rattle.tokei_files.specs.Paths.{language_by_path}
use Rattle.tokei_files.specs.ContentStatistics.{stats_at}

-- by what files are counted: the rows of the table, whether doc strings count as comments, and the
-- languages that count, which are all where none are given
pub record Counting : Type 0 where
  pub rows : List Row
  pub docs : Bool
  pub types : Option (List ℕ)

-- a language counts
abbrev pub counts : Option (List ℕ) → ℕ → Bool
counts None language = true
counts (Some languages) language = list_any (λ l. l == language) languages

-- the language, where it counts
abbrev pub counted : Option (List ℕ) → ℕ → Option ℕ
counted types language = if counts types language then Some language else None

-- the language in which a file counts, if in any
abbrev pub language_of_file : Counting → Tree → KeptFile → Option ℕ
language_of_file counting tree file =
    option_and_then (counted counting.types) (language_by_path tree counting.rows file.place)

-- the statistics of a file that counts in this language fit the code's numbers
abbrev pub ReadingFits : Counting → Tree → KeptFile → Option ℕ → Type 0
ReadingFits counting tree file None = ⊤
ReadingFits counting tree file (Some l) =
    IfSome (stats_at tree counting.rows counting.docs l file.place) Fits

-- those of a file, in the language in which it counts
abbrev pub FileFits : Counting → Tree → KeptFile → Type 0
FileFits counting tree file = ReadingFits counting tree file (language_of_file counting tree file)

-- those of each file
abbrev pub ReadingsFit : Counting → Tree → List KeptFile → Type 0
ReadingsFit counting tree [] = ⊤
ReadingsFit counting tree (file ∷ files) = FileFits counting tree file
    × ReadingsFit counting tree files
