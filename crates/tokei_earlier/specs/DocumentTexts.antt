-- What a document of languages is, in each format: its text, and which sums it shows.
use Rattle.std.specs.Prelude.{ℕ, List}
use Rattle.serde_json.specs.Written.{compact_text}
use Rattle.tokei_earlier.specs.declared.format.Format.{Format}
use Rattle.tokei_earlier.specs.declared.format.Format.TheVariants.{Json}
use Rattle.tokei_json.specs.Document.{document}
use Rattle.tokei_languages.specs.Summaries.{languages_summary}
use Rattle.tokei_languages.specs.Values.{LanguageValue}
use Rattle.tokei_stats.specs.Overflow.{CountsFit}
use Rattle.tokei_table.specs.Row.{Row}

-- the text of a format: of JSON the compact one of languages beside their total
abbrev pub document_text : Format → List Row → List (ℕ × LanguageValue) → List ℕ
document_text Json rows es = compact_text (document rows es)

-- the sums that a format shows fit: of JSON the counts of the total
abbrev pub DocumentSumsFit : Format → List (ℕ × LanguageValue) → Type 0
DocumentSumsFit Json es = CountsFit (languages_summary es)
