-- The order of a folder's entries.
use Rattle.std.specs.Prelude.{ℕ, List}
use Rattle.std.specs.Ordering.{nat_cmp}
use Rattle.std.specs.Cmp.Lexicographic.{slice_cmp}
use Rattle.std.specs.declared.cmp.Ordering.{Ordering}
use Rattle.tokei_folders.specs.declared.fs.Entry.{Entry}

-- entries by their names, byte by byte
abbrev pub by_name : Entry → Entry → Ordering
by_name a b = slice_cmp nat_cmp a.name b.name

-- names by their bytes
abbrev pub by_bytes : List ℕ → List ℕ → Ordering
by_bytes a b = slice_cmp nat_cmp a b
