-- The row of a language of which nothing but its key is known.
use Rattle.std.specs.Prelude.{ℕ, List, [], false}
use Rattle.tokei_table_row.specs.Row.{Row}

-- The name is the key; the kind and every list is empty, and no truth value is set.
abbrev pub new_row : List ℕ → Row
new_row key = record {
  key = key;
  name = key;
  kind = [];
  line_comment = [];
  multi_line_comments = [];
  nested = false;
  nested_comments = [];
  quotes = [];
  verbatim_quotes = [];
  doc_quotes = [];
  literate = false;
  blank = false;
  important_syntax = [];
  extensions = [];
  filenames = [];
  path_suffixes = [];
  mime = [];
  shebangs = [];
  env = [];
  contexts = [];
}
