-- A row into which another one is copied, one group of members after the other.
use Rattle.std.specs.Prelude.{◌++◌}
use Rattle.tokei_table_row.specs.Row.{Row}

-- The row with the other one's name, kind and truth values.
abbrev pub with_name : Row → Row → Row
with_name row s = record row {
  name = s.name;
  kind = s.kind;
  nested = s.nested;
  literate = s.literate;
  blank = s.blank;
}

-- The row with the other one's comments, further texts and tags behind its own.
abbrev pub with_comments : Row → Row → Row
with_comments row s = record row {
  line_comment = row.line_comment ++ s.line_comment;
  multi_line_comments = row.multi_line_comments ++ s.multi_line_comments;
  nested_comments = row.nested_comments ++ s.nested_comments;
  important_syntax = row.important_syntax ++ s.important_syntax;
  contexts = row.contexts ++ s.contexts;
}

-- The row with the other one's string literals behind its own.
abbrev pub with_quotes : Row → Row → Row
with_quotes row s = record row {
  quotes = row.quotes ++ s.quotes;
  verbatim_quotes = row.verbatim_quotes ++ s.verbatim_quotes;
  doc_quotes = row.doc_quotes ++ s.doc_quotes;
}

-- The row with what the other one is found by behind its own.
abbrev pub with_finds : Row → Row → Row
with_finds row s = record row {
  extensions = row.extensions ++ s.extensions;
  filenames = row.filenames ++ s.filenames;
  path_suffixes = row.path_suffixes ++ s.path_suffixes;
  mime = row.mime ++ s.mime;
  shebangs = row.shebangs ++ s.shebangs;
  env = row.env ++ s.env;
}

-- The row with all of the other one's members but its key.
abbrev pub filled : Row → Row → Row
filled row s = with_finds (with_quotes (with_comments (with_name row s) s) s) s
