-- What the readers of the code answer, as the definitions see it.
use Rattle.std.specs.Prelude.{ℕ, List}
use Rattle.tokei_count.specs.Languages.{languages_of}
use Rattle.tokei_count.specs.PlainReading.{reading}
use Rattle.tokei_count.specs.Steps.{made_steps}
use Rattle.tokei_stats.specs.Statistics.{Statistics}
use Rattle.tokei_count.specs.declared.reader.Reader.{Reader}
use Rattle.tokei_parts.specs.declared.reading.Reading.{Reading}

-- the plain reading of a text, with so many levels left, in a language
abbrev pub reading_by : Reader → ℕ → ℕ → List ℕ → Statistics
reading_by reader levels language text =
    reading (languages_of reader.table.now) reader.docs_are_comments levels language text

-- the steps that the reader takes for it
abbrev pub steps_by : Reader → ℕ → ℕ → List ℕ → ℕ
steps_by reader levels language text =
    made_steps reader.skips (languages_of reader.table.now) levels language text

-- the plain reading of a text that is read
abbrev pub reading_of : Reading → Statistics
reading_of r = reading (languages_of r.table.now) r.docs_are_comments r.levels r.language r.text.now
