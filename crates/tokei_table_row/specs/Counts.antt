-- How many lines a text has of each class.
use Rattle.std.specs.Prelude.{ℕ, ◌+◌}

-- how many lines are blank, code and comments
pub record Counts : Type 0 where
  pub blanks : ℕ
  pub code : ℕ
  pub comments : ℕ

-- all lines, of whatever class
abbrev pub lines_of : Counts → ℕ
lines_of counts = counts.blanks + counts.code + counts.comments

-- the counts of a text without lines
abbrev pub no_lines : Counts
no_lines = record { blanks = 0; code = 0; comments = 0 }

-- both, added up
abbrev pub plus : Counts → Counts → Counts
plus counts more = record {
  blanks = counts.blanks + more.blanks;
  code = counts.code + more.code;
  comments = counts.comments + more.comments;
}
