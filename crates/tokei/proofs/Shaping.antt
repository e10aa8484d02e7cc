-- What is written of a run, whatever the folders hold.
use Rattle.std.proofs.Common.{ℕ, List, [], ◌∷◌, ◌++◌, Option, Some, None, sym, append-nil, subst}
use Rattle.std.proofs.KnownBytes.{Appends-nil, Appends-trans}
use Rattle.std.proofs.lemmas.Grind.{flat_map-append}
use Rattle.std.specs.Io.KnownBytes.{Appends}
use Rattle.tokei_earlier.specs.declared.format.Format.{Format}
use Rattle.tokei_languages.specs.Values.{LanguageValue}
use Rattle.tokei_options.specs.declared.streaming.Streaming.{Streaming}
use Rattle.tokei_stats.specs.Reports.{ReportValue}
use Rattle.tokei_table.specs.Row.{Row}
use Rattle.tokei.specs.declared.job.Job.{Job}
use Rattle.tokei.specs.Rows.{heading_of, report_row}
use Rattle.tokei.specs.Shapes.{WritesSomeRows, WritesSomeStream, rows_text}
use Rattle.tokei.specs.Texts.{IsText, WritesText}

module _ (form : Streaming) (rows : List Row) where
  pub no_row : (o : Option (List ℕ)) → WritesSomeRows form rows o o
  no_row o = record { reports = []; appended = Appends-nil o }

  pub one_row : (old new : Option (List ℕ)) (language : ℕ) (report : ReportValue) → Appends old new (report_row form rows language report) → WritesSomeRows form rows old new
  one_row old new language report h = record {
    reports = (language, report) ∷ [];
    appended = subst (Appends old new) (sym (append-nil (report_row form rows language report))) h;
  }

  pub rows_on : (old mid new : Option (List ℕ)) → WritesSomeRows form rows old mid → WritesSomeRows form rows mid new → WritesSomeRows form rows old new
  rows_on old mid new h k = record {
    reports = h.reports ++ k.reports;
    appended =
        subst (Appends old new) (sym (flat_map-append (λ r. report_row form rows r.0 r.1) h.reports k.reports))
        (Appends-trans old mid new (rows_text form rows h.reports) (rows_text form rows k.reports) h.appended k.appended);
  }

  -- rows below their heading
  pub stream_of : (old mid new : Option (List ℕ)) → Appends old mid (heading_of form) → WritesSomeRows form rows mid new → WritesSomeStream form rows old new
  stream_of old mid new heading h = record {
    reports = h.reports;
    appended = Appends-trans old mid new (heading_of form) (rows_text form rows h.reports) heading h.appended;
  }

-- a text of languages that is put behind what stood there
pub written_by : (format : Option Format) (rows : List Row) (job : Job) (languages : List (ℕ × LanguageValue)) (text : List ℕ) (old new : Option (List ℕ))
    → IsText format rows job languages text → Appends old new text → WritesText format rows job languages old new
written_by None rows job languages text old new is put = record { text = text; report = is; appended = put }
written_by (Some format) rows job languages text old new is put = subst (Appends old new) is put
