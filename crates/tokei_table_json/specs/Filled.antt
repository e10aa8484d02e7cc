-- A new row into which a member of `languages` is read, one of its members after the other.
use Rattle.std.specs.Prelude.{ℕ, Bool, List, Some, if◌then◌else◌, bytes_eq, codes}
use Rattle.serde_json.specs.Data.{Data, boolean, string, array, Members, no_members, member}
use Rattle.tokei_table_json.specs.Escapes.{unescaped_text}
use Rattle.tokei_table_json.specs.Rows.{texts_of, pairs_in, tags_at, name_or}
use Rattle.tokei_table_row.specs.Row.{Pair, Row}

-- A name that isn't empty in place of the one that is there.
abbrev pub put_name : List ℕ → Data → List ℕ
put_name name (string t) = name_or name (unescaped_text t)
put_name name value = name

-- A text as it stands in place of the one that is there.
abbrev pub put_text : List ℕ → Data → List ℕ
put_text text (string t) = t
put_text text value = text

-- A truth value in place of the one that is there.
abbrev pub put_truth : Bool → Data → Bool
put_truth truth (boolean b) = b
put_truth truth value = truth

-- The texts of a list in place of those that are there.
abbrev pub put_texts : List (List ℕ) → Data → List (List ℕ)
put_texts texts (array ds) = texts_of ds
put_texts texts value = texts

-- The pairs of a list in place of those that are there.
abbrev pub put_pairs : List Pair → Data → List Pair
put_pairs pairs (array ds) = pairs_in ds
put_pairs pairs value = pairs

-- The tags of a list of contexts in place of those that are there.
abbrev pub put_tags : Bool → List (List ℕ) → Data → List (List ℕ)
put_tags html tags (array ds) = tags_at html (Some (array ds))
put_tags html tags value = tags

-- What is put in place of a member's value where the key is that member's.
abbrev pub put_at : {X : Type 0} → List ℕ → (X → Data → X) → List ℕ → Data → X → X
put_at name put k detail value = if bytes_eq k name then put value detail else value

-- The row into which one more member is read, of a language that is of kind `html` or not.
abbrev pub with_member : Bool → List ℕ → Data → Row → Row
with_member html key value row = record {
  key = row.key;
  name = put_at (codes "name") put_name key value row.name;
  kind = put_at (codes "kind") put_text key value row.kind;
  line_comment = put_at (codes "line_comment") put_texts key value row.line_comment;
  multi_line_comments = put_at (codes "multi_line_comments") put_pairs key value
      row.multi_line_comments;
  nested = put_at (codes "nested") put_truth key value row.nested;
  nested_comments = put_at (codes "nested_comments") put_pairs key value row.nested_comments;
  quotes = put_at (codes "quotes") put_pairs key value row.quotes;
  verbatim_quotes = put_at (codes "verbatim_quotes") put_pairs key value row.verbatim_quotes;
  doc_quotes = put_at (codes "doc_quotes") put_pairs key value row.doc_quotes;
  literate = put_at (codes "literate") put_truth key value row.literate;
  blank = put_at (codes "blank") put_truth key value row.blank;
  important_syntax = put_at (codes "important_syntax") put_texts key value row.important_syntax;
  extensions = put_at (codes "extensions") put_texts key value row.extensions;
  filenames = put_at (codes "filenames") put_texts key value row.filenames;
  path_suffixes = put_at (codes "path_suffixes") put_texts key value row.path_suffixes;
  mime = put_at (codes "mime") put_texts key value row.mime;
  shebangs = put_at (codes "shebangs") put_texts key value row.shebangs;
  env = put_at (codes "env") put_texts key value row.env;
  contexts = put_at (codes "contexts") (put_tags html) key value row.contexts;
}

-- The row into which all of the members are read.
abbrev pub filled : Bool → Members → Row → Row
filled html no_members row = row
filled html (member k d ms) row = filled html ms (with_member html k d row)
