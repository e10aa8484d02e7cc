-- The report of a file, by what was found of it.
use Rattle.std.proofs.Common.{◌≡◌, ℕ, List, Option, None, Some, option_map, sym, ap, ◌∙◌}
use Rattle.std.specs.Prelude.{option_and_then}
use Rattle.tokei_folders.specs.Tree.{Tree}
use Rattle.tokei_stats.specs.Reports.{ReportValue}
use Rattle.tokei_files.specs.Contents.{content_at}
use Rattle.tokei_files.specs.ContentStatistics.{stats_at, stats_in}
use Rattle.tokei_files.specs.Files.{Counting, language_of_file}
use Rattle.tokei_stats.specs.Statistics.{Statistics}
use Rattle.tokei_walk.specs.declared.kept_file.KeptFile.{KeptFile}
use Rattle.tokei.specs.Streams.{report_in, report_of_file}

module _ (c : Counting) (t : Tree) (file : KeptFile) (o : Option ℕ) (is : o ≡ language_of_file c t file) where
  -- one that counts in no language has none
  pub in_no_language : o ≡ None → None ≡ report_of_file c t file
  unfolding report_of_file
  in_no_language none = ap (option_and_then (report_in c t file)) (sym none ∙ is)

  -- one that was read
  pub was_read : (l : ℕ) (s : Statistics) (r : ReportValue) → o ≡ Some l → Some s ≡ stats_at t c.rows c.docs l file.place → r ≡ record { name = file.path; stats = s }
      → Some (l, r) ≡ report_of_file c t file
  unfolding report_of_file
  was_read l s r some read named =
      let view : Statistics → ℕ × ReportValue = λ x. (l, record { name = file.path; stats = x }) in
      let beside : ReportValue → Option (ℕ × ReportValue) = λ q. Some (l, q) in
      ap beside named ∙ ap (option_map view) read ∙ ap (option_and_then (report_in c t file)) (sym some ∙ is)

  -- one that can't be read has none
  pub was_refused : (l : ℕ) → o ≡ Some l → content_at t file.place ≡ None → None ≡ report_of_file c t file
  unfolding report_of_file
  was_refused l some none =
      let view : Statistics → ℕ × ReportValue = λ x. (l, record { name = file.path; stats = x }) in
      ap (λ (d : Option (List ℕ)). option_map view (option_map (stats_in c.rows c.docs l) d)) (sym none) ∙ ap (option_and_then (report_in c t file)) (sym some ∙ is)
