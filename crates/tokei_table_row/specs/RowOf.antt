-- The row that a `Syntax` holds.
use Rattle.std.specs.Prelude.{ℕ, List, map, String, string_bytes}
use Rattle.std.specs.Global.{Global}
use Rattle.tokei_table_row.specs.Row.{Pair, Row}
use Rattle.tokei_table_row.specs.declared.syntax.Syntax.{Syntax}

-- An opener and its closer.
abbrev pub pair_of : String Global × String Global → Pair
pair_of p = record { opener = string_bytes p.0; closer = string_bytes p.1 }

-- A list of openers and closers.
abbrev pub pairs_of : List (String Global × String Global) → List Pair
pairs_of ps = map pair_of ps

-- A list of texts.
abbrev pub tokens_of : List (String Global) → List (List ℕ)
tokens_of ts = map string_bytes ts

-- Each member under its own name.
abbrev pub row_of : Syntax → Row
row_of s = record {
  key = string_bytes s.key;
  name = string_bytes s.name;
  kind = string_bytes s.kind;
  line_comment = tokens_of s.line_comment.items;
  multi_line_comments = pairs_of s.multi_line_comments.items;
  nested = s.nested;
  nested_comments = pairs_of s.nested_comments.items;
  quotes = pairs_of s.quotes.items;
  verbatim_quotes = pairs_of s.verbatim_quotes.items;
  doc_quotes = pairs_of s.doc_quotes.items;
  literate = s.literate;
  blank = s.blank;
  important_syntax = tokens_of s.important_syntax.items;
  extensions = tokens_of s.extensions.items;
  filenames = tokens_of s.filenames.items;
  path_suffixes = tokens_of s.path_suffixes.items;
  mime = tokens_of s.mime.items;
  shebangs = tokens_of s.shebangs.items;
  env = tokens_of s.env.items;
  contexts = tokens_of s.contexts.items;
}
