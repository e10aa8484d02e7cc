-- Languages without comments: by its bytes alone a line that begins and ends plain is blank or not.
use Rattle.std.specs.Prelude.{ℕ, ◌-◌, ◌&&◌, ◌==◌, Bool, true, false, length}
use Rattle.tokei_stats.specs.Statistics.{Counts}
use Rattle.tokei_table.specs.Row.{Row}

-- the language has no comment of any kind
abbrev pub has_no_comments : Row → Bool
has_no_comments row =
    (length row.line_comment == 0)
    && ((length row.multi_line_comments == 0) && (length row.nested_comments == 0))

-- the counts of so many blank lines and so many others, in a language that is literate or not
abbrev pub counts_in : Bool → ℕ → ℕ → Counts
counts_in true blank solid = record { blanks = blank; code = 0; comments = solid }
counts_in false blank solid = record { blanks = blank; code = solid; comments = 0 }

-- the counts of so many blank lines and so many others, of which so many are comments, in a
-- language that is literate or not
abbrev pub counts_with : Bool → ℕ → ℕ → ℕ → Counts
counts_with true blank solid comments =
    record { blanks = blank; code = 0; comments = solid }
counts_with false blank solid comments =
    record { blanks = blank; code = solid - comments; comments = comments }
