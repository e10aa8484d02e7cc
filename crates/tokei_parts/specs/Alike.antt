-- Languages that the table says the same of.
use Rattle.std.specs.Prelude.{◌≡◌}
use Rattle.tokei_table.specs.Families.{family_of}
use Rattle.tokei_table.specs.Row.{Row}

-- They have the same string literals.
pub record HaveSameQuotes (one other : Row) : Type 0 where
  pub quotes : one.quotes ≡ other.quotes
  pub verbatim_quotes : one.verbatim_quotes ≡ other.verbatim_quotes
  pub doc_quotes : one.doc_quotes ≡ other.doc_quotes

-- They have the same comments.
pub record HaveSameComments (one other : Row) : Type 0 where
  pub line_comment : one.line_comment ≡ other.line_comment
  pub multi_line_comments : one.multi_line_comments ≡ other.multi_line_comments
  pub nested_comments : one.nested_comments ≡ other.nested_comments

-- They have the same further texts that a line has to hold to be walked.
pub record HaveSameTexts (one other : Row) : Type 0 where
  pub family : family_of one.key ≡ family_of other.key
  pub important_syntax : one.important_syntax ≡ other.important_syntax
  pub contexts : one.contexts ≡ other.contexts
