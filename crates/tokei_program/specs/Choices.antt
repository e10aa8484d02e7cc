-- What the words of a command line choose: what is written, by which column it is sorted, and how
-- numbers are shown.
use Rattle.std.specs.Prelude.{◌≡◌, ◌⊎◌, ℕ, List, Option, None, Some, Result, unwrap_or}
use Rattle.std.specs.Result.{result_ok}
use Rattle.tokei.specs.declared.job.Wanted.{Wanted}
use Rattle.tokei.specs.declared.job.Wanted.TheVariants.{Stream, Document, Report}
use Rattle.tokei_cli.specs.declared.cli.Cli.{Cli}
use Rattle.tokei_earlier.specs.declared.format.Format.{Format}
use Rattle.tokei_earlier.specs.declared.format.FormatError.{FormatError}
use Rattle.tokei_earlier.specs.Formats.{format_of_word}
use Rattle.tokei_options.specs.declared.sort.Sort.{Sort}
use Rattle.tokei_options.specs.declared.sort.SortError.{SortError}
use Rattle.tokei_options.specs.Sorts.{sort_of_word}
use Rattle.tokei_options.specs.declared.number_format.NumberFormatStyle.{NumberFormatStyle}
use Rattle.tokei_options.specs.declared.number_format.NumberFormatStyle.TheVariants.{Plain}
use Rattle.tokei_options.specs.declared.streaming.Streaming.{Streaming}
use Rattle.tokei_options.specs.Forms.{ParsesForm}
use Rattle.tokei_options.specs.Styles.{ParsesStyle}
use Rattle.tokei_program.specs.Words.{IsUnread, ReadsAs}

-- a word gives the format that it names
abbrev pub GivesFormat : List ℕ → Result Format FormatError → Type 0
GivesFormat word r = r ≡ format_of_word word

-- a word gives the column that it names
abbrev pub GivesColumn : List ℕ → Result Sort SortError → Type 0
GivesColumn word r = result_ok r ≡ sort_of_word word

-- what is written: a stream before a document, and a document before the report
abbrev pub wanted_of : Option Streaming → Option Format → Wanted
wanted_of (Some form) output = Stream form
wanted_of None (Some format) = Document format
wanted_of None None = Report

-- digits stand together where nothing else is asked for
abbrev pub style_of : Option NumberFormatStyle → NumberFormatStyle
style_of style = unwrap_or style Plain

-- a command line chooses what is written, the column that it sorts by, if any, and how numbers are
-- shown
pub record Chooses (line : Cli) (wanted : Wanted) (sort : Option Sort)
    (style : NumberFormatStyle) : Type 0 where
  pub output : Option Format
  pub format : ReadsAs GivesFormat line.output output
  pub streaming : Option Streaming
  pub form : ReadsAs ParsesForm line.streaming streaming
  pub written : wanted ≡ wanted_of streaming output
  pub column : ReadsAs GivesColumn line.sort sort
  pub numbers : Option NumberFormatStyle
  pub named : ReadsAs ParsesStyle line.number_format numbers
  pub shown : style ≡ style_of numbers

-- one of the words by which a command line chooses names nothing that can be had
abbrev pub HasUnread : Cli → Type 0
HasUnread line =
    IsUnread GivesFormat line.output ⊎ (IsUnread ParsesForm line.streaming
    ⊎ (IsUnread GivesColumn line.sort ⊎ IsUnread ParsesStyle line.number_format))
