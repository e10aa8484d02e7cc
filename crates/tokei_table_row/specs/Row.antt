-- A language's row of the table, as bytes.
use Rattle.std.specs.Prelude.{ℕ, Bool, List, bytes_eq, codes}

-- The opener and the closer of a comment or a string literal.
pub record Pair : Type 0 where
  pub opener : List ℕ
  pub closer : List ℕ

-- What the table says of one language; a context is told by its tag.
pub record Row : Type 0 where
  pub key : List ℕ
  pub name : List ℕ
  pub kind : List ℕ
  pub line_comment : List (List ℕ)
  pub multi_line_comments : List Pair
  pub nested : Bool
  pub nested_comments : List Pair
  pub quotes : List Pair
  pub verbatim_quotes : List Pair
  pub doc_quotes : List Pair
  pub literate : Bool
  pub blank : Bool
  pub important_syntax : List (List ℕ)
  pub extensions : List (List ℕ)
  pub filenames : List (List ℕ)
  pub path_suffixes : List (List ℕ)
  pub mime : List (List ℕ)
  pub shebangs : List (List ℕ)
  pub env : List (List ℕ)
  pub contexts : List (List ℕ)

-- The kind of languages whose contexts are tags.
abbrev pub is_html_text : List ℕ → Bool
is_html_text kind = bytes_eq kind (codes "html")

-- A language is HTML by its kind alone.
abbrev pub is_html : Row → Bool
is_html row = is_html_text row.kind
