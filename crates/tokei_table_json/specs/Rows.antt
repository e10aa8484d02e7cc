-- The rows of a table that has its layout and but the known escapes: each member as it stands
-- there, texts other than keys and kinds after escapes; a member that is left out is empty or
-- false.
use Rattle.std.specs.Prelude.{ℕ, Bool, true, false, List, [], ◌∷◌, Option, Some, None, codes}
use Rattle.serde_json.specs.Data.{Data, boolean, string, array, object, Items, no_items, item, Members, no_members}
use Rattle.serde_json.specs.Data.{member}
use Rattle.serde_json.specs.Find.{get}
use Rattle.tokei_table_json.specs.Escapes.{unescaped_text}
use Rattle.tokei_table_json.specs.Layout.{is_html_kind}
use Rattle.tokei_table_row.specs.Row.{Pair, Row}

-- A text after escapes.
abbrev pub text_of : Data → List ℕ
text_of (string t) = unescaped_text t
text_of value = []

-- The text of a member, empty where it is left out.
abbrev pub text_at : Option Data → List ℕ
text_at None = []
text_at (Some d) = text_of d

-- The text of the member `kind` as it stands there, for it has no escapes; empty where it is left
-- out.
abbrev pub kind_at : Option Data → List ℕ
kind_at (Some (string t)) = t
kind_at found = []

-- The texts of a list, in its order.
abbrev pub texts_of : Items → List (List ℕ)
texts_of no_items = []
texts_of (item d ds) = text_of d ∷ texts_of ds

-- The list of texts of a member, empty where it is left out.
abbrev pub texts_at : Option Data → List (List ℕ)
texts_at (Some (array ds)) = texts_of ds
texts_at found = []

-- Two empty texts.
abbrev pub no_pair : Pair
no_pair = record { opener = []; closer = [] }

-- The two texts of a pair.
abbrev pub two_texts : Items → Pair
two_texts (item d (item e no_items)) = record { opener = text_of d; closer = text_of e }
two_texts ds = no_pair

-- The two texts of a list.
abbrev pub pair_in : Data → Pair
pair_in (array ds) = two_texts ds
pair_in value = no_pair

-- The pairs of a list, in its order.
abbrev pub pairs_in : Items → List Pair
pairs_in no_items = []
pairs_in (item d ds) = pair_in d ∷ pairs_in ds

-- The list of pairs of a member, empty where it is left out.
abbrev pub pairs_at : Option Data → List Pair
pairs_at (Some (array ds)) = pairs_in ds
pairs_at found = []

-- The truth value of a member, false where it is left out.
abbrev pub truth_at : Option Data → Bool
truth_at (Some (boolean b)) = b
truth_at found = false

-- The tags of a list of contexts.
abbrev pub tags_in : Items → List (List ℕ)
tags_in no_items = []
tags_in (item d ds) = text_at (get (codes "tag") d) ∷ tags_in ds

-- Only a language of kind `html` has tags.
abbrev pub tags_at : Bool → Option Data → List (List ℕ)
tags_at true (Some (array ds)) = tags_in ds
tags_at html found = []

-- An empty name counts as none, and the name is then the key.
abbrev pub name_or : List ℕ → List ℕ → List ℕ
name_or key [] = key
name_or key (c ∷ cs) = c ∷ cs

-- The row of a member of `languages`.
unfoldable pub row_in : List ℕ → Data → Row
row_in key value = record {
  key = key;
  name = name_or key (text_at (get (codes "name") value));
  kind = kind_at (get (codes "kind") value);
  line_comment = texts_at (get (codes "line_comment") value);
  multi_line_comments = pairs_at (get (codes "multi_line_comments") value);
  nested = truth_at (get (codes "nested") value);
  nested_comments = pairs_at (get (codes "nested_comments") value);
  quotes = pairs_at (get (codes "quotes") value);
  verbatim_quotes = pairs_at (get (codes "verbatim_quotes") value);
  doc_quotes = pairs_at (get (codes "doc_quotes") value);
  literate = truth_at (get (codes "literate") value);
  blank = truth_at (get (codes "blank") value);
  important_syntax = texts_at (get (codes "important_syntax") value);
  extensions = texts_at (get (codes "extensions") value);
  filenames = texts_at (get (codes "filenames") value);
  path_suffixes = texts_at (get (codes "path_suffixes") value);
  mime = texts_at (get (codes "mime") value);
  shebangs = texts_at (get (codes "shebangs") value);
  env = texts_at (get (codes "env") value);
  contexts = tags_at (is_html_kind (get (codes "kind") value)) (get (codes "contexts") value);
}

-- A row for each member of `languages`, in the order of the keys.
abbrev pub rows_in : Members → List Row
rows_in no_members = []
rows_in (member k d ms) = row_in k d ∷ rows_in ms

-- The rows of the object `languages`.
abbrev pub rows_at : Option Data → List Row
rows_at (Some (object ms)) = rows_in ms
rows_at found = []
