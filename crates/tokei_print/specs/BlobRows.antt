-- The rows of a file that holds other languages: its name, its own counts, and a row for each
-- language inside.
use Rattle.std.specs.Prelude.{ℕ, ◌-◌, List, [], ◌∷◌, ◌++◌, Bool, ⊤, codes, length, replicate, if◌then◌else◌}
use Rattle.tokei_stats.specs.ReportRow.{report_row}
use Rattle.tokei_stats.specs.Statistics.{Statistics, Blobs, own}
use Rattle.tokei_stats.specs.Statistics.Blobs.{none, blob}
use Rattle.tokei_table.specs.Bytes.{space}
use Rattle.tokei_print.specs.Cells.{number_cells}
use Rattle.tokei_print.specs.FilesAndCounts.{files_places}
use Rattle.tokei_print.specs.LinesFit.{LinesFit}
use Rattle.tokei_print.specs.Layouts.{Layout, separator_in}
use Rattle.tokei_print.specs.NameSection.{name_section}
use Rattle.tokei_print.specs.Rules.{newline}
use Rattle.tokei_print.specs.Subtotal.{path_places}

-- the byte of a dash, `-`
abbrev pub dash : ℕ
dash = 45

-- a file's name: alone where no other file stands above, and else between dashes
abbrev pub name_line : Layout → Bool → List ℕ → List ℕ
name_line layout first name =
    if first then space ∷ (name ++ newline)
    else codes "-- "
    ++ (name ++ (space ∷ (replicate (layout.columns - 4 - length name) dash ++ newline)))

-- the own counts of a file, under the name of its language
abbrev pub own_row : Layout → List ℕ → Statistics → List ℕ
own_row layout name stats =
    codes " |-" ++ (report_row (path_places layout.columns - 3) name (own stats) ++ newline)

-- the own counts of a language inside a file
abbrev pub blob_row : Layout → Bool → List ℕ → Statistics → List ℕ
blob_row layout inaccurate name stats =
    name_section layout.columns inaccurate name (codes " |-")
    ++ (space
    ∷ (replicate files_places space
    ++ (number_cells (separator_in layout) (own stats) ++ newline)))

-- a row for each language inside, in their order
abbrev pub blob_rows : Layout → (ℕ → List ℕ) → Bool → Blobs → List ℕ
blob_rows layout names inaccurate none = []
blob_rows layout names inaccurate (blob key stats rest) =
    blob_row layout inaccurate (names key) stats ++ blob_rows layout names inaccurate rest

-- the lines of each language inside are at most the greatest `usize`
abbrev pub BlobRowsFit : Blobs → Type 0
BlobRowsFit none = ⊤
BlobRowsFit (blob key stats rest) = LinesFit (own stats) × BlobRowsFit rest
