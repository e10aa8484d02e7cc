-- The rows of files.
use Rattle.std.proofs.Common.{◌≡◌, ℕ, List, [], ◌∷◌, Bool, true, false, IsTrue, length, refl, arith}
use Rattle.std.proofs.lemmas.Bool.Decides.{nat_tests}
use Rattle.std.specs.Prelude.{◌==◌, ◌↔◌}
use Rattle.tokei_stats.specs.Reports.{ReportValue}
use Rattle.tokei_stats.specs.declared.stats.CodeStats.{CodeStats}
use Rattle.tokei_stats.specs.Seen.{blobs_of, entries_of}
use Rattle.tokei_print.specs.FileRows.{file_rows, no_blobs}
use Rattle.tokei_print.specs.declared.layout.Layout.{Layout}

pub empty_blobs : (r : Bool) (es : List (ℕ × CodeStats)) → (IsTrue r ↔ (length es ≡ 0)) → r ≡ no_blobs (blobs_of (entries_of es))
empty_blobs true [] h = refl
empty_blobs false [] h = let no : false ≡ true = h.1 refl in cc
empty_blobs true (e ∷ es) h = let none : length (e ∷ es) ≡ 0 = h.0 refl in absurd (omega arith)
empty_blobs false (e ∷ es) h = refl

-- no row is empty
pub no_rows : (layout : Layout) (reports : List ReportValue) → (length (file_rows layout reports) == 0) ≡ (length reports == 0)
no_rows layout [] = refl
no_rows layout (report ∷ reports) = grind (arith, nat_tests)
