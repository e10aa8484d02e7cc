-- What a file of a known tree counts: the plain reading of its content, decoded.
use Rattle.std.specs.Prelude.{ℕ, Bool, List, Option, option_map}
use Rattle.tokei_count.specs.Languages.{languages_of}
use Rattle.tokei_count.specs.PlainReading.{reading, outermost_levels}
use Rattle.tokei_stats.specs.Statistics.{Statistics}
use Rattle.tokei_table.specs.Row.{Row}
use Rattle.tokei_bytes.specs.Decoding.{decoded}
use Rattle.tokei_folders.specs.Tree.{Tree}
use Rattle.tokei_files.specs.Contents.{content_at}

-- the statistics of a text in a language, where `docs` says whether doc strings count as comments
abbrev pub stats_of_text : List Row → Bool → ℕ → List ℕ → Statistics
stats_of_text rows docs language text =
    reading (languages_of rows) docs outermost_levels language text

-- the statistics of a content, decoded
unfoldable pub stats_in : List Row → Bool → ℕ → List ℕ → Statistics
stats_in rows docs language content = stats_of_text rows docs language (decoded content)

-- the statistics of the file at a place, where it can be read
abbrev pub stats_at : Tree → List Row → Bool → ℕ → List ℕ → Option Statistics
stats_at tree rows docs language place =
    option_map (stats_in rows docs language) (content_at tree place)
