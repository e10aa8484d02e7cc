-- The text of languages that a run writes: a document in a format, or else the printed report.
use Rattle.std.specs.Prelude.{◌≡◌, ℕ, List, Option, None, Some}
use Rattle.std.specs.Io.KnownBytes.{Appends}
use Rattle.tokei_earlier.specs.declared.format.Format.{Format}
use Rattle.tokei_earlier.specs.DocumentTexts.{document_text, DocumentSumsFit}
use Rattle.tokei_languages.specs.Values.{LanguageValue}
use Rattle.tokei_print.specs.PrintedReports.{IsPrintedReport}
use Rattle.tokei_print.specs.ReportSums.{PrintedReportFits}
use Rattle.tokei_table.specs.Row.{Row}
use Rattle.tokei.specs.declared.job.Job.{Job}
use Rattle.tokei.specs.Written.{style_of, AppendsReport}

-- a text is that of languages
abbrev pub IsText : Option Format → List Row → Job → List (ℕ × LanguageValue) → List ℕ → Type 0
IsText (Some format) rows job languages text = text ≡ document_text format rows languages
IsText None rows job languages text = IsPrintedReport rows (style_of job) languages text

-- behind what stood there a writer has the text of languages, and nothing else
abbrev pub WritesText : Option Format → List Row → Job → List (ℕ × LanguageValue)
    → Option (List ℕ) → Option (List ℕ) → Type 0
WritesText (Some format) rows job languages old new =
    Appends old new (document_text format rows languages)
WritesText None rows job languages old new = AppendsReport rows job languages old new

-- the sums that it shows are at most the greatest `usize`
abbrev pub TextFits : Option Format → Job → List (ℕ × LanguageValue) → Type 0
TextFits (Some format) job languages = DocumentSumsFit format languages
TextFits None job languages = PrintedReportFits (style_of job) languages
