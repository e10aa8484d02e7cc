-- A row into which the members of an object were read, one after the other, has what stands at each key.
use Rattle.std.proofs.Common.{◌≡◌, ℕ, List, [], Bool, true, false, cond, Option, Some, None, bytes_eq, codes}
use Rattle.std.proofs.Common.{refl, sym, ap, ◌∙◌}
use Rattle.serde_json.specs.Data.{Data, boolean, string, array, object, Members, no_members, member}
use Rattle.serde_json.specs.Find.{get_member}
use Rattle.tokei_table_json.specs.Filled.{put_name, put_text, put_truth, put_texts, put_pairs, put_tags, put_at}
use Rattle.tokei_table_json.specs.Filled.{with_member, filled}
use Rattle.tokei_table_json.specs.Layout.{is_html_kind}
use Rattle.tokei_table_json.specs.Rows.{text_of, text_at, kind_at, texts_at, pairs_at, truth_at, tags_at, name_or, row_in}
use Rattle.tokei_table_json.proofs.MembersOnce.{AreInOrder, Others, others_behind, order_behind, found_here, found_behind}
use Rattle.tokei_table_row.specs.NewRow.{new_row}
use Rattle.tokei_table_row.specs.Row.{Pair, Row}

-- what is there when the members were read, where one of them may stand at the key
abbrev pick : {X : Type 0} (c : List ℕ) (put : X → Data → X) → X → Members → X
pick c put x no_members = x
pick c put x (member k d ms) = pick c put (put_at c put k d x) ms

pick_none : {X : Type 0} (c : List ℕ) (put : X → Data → X) (x : X) (ms : Members) → Others c ms
    → pick c put x ms ≡ x
pick_none c put x no_members h = refl
pick_none c put x (member k d ms) h =
    ap (λ b. pick c put (cond b (put x d) x) ms) h.0 ∙ pick_none c put x ms h.1

module _ {X : Type 0} (c : List ℕ) (put : X → Data → X) (g : Option Data → X)
    (same : (d : Data) → put (g None) d ≡ g (Some d)) where
  one_more : (k : List ℕ) (d : Data) (ms : Members) → AreInOrder (member k d ms)
      → pick c put (g None) ms ≡ g (get_member c ms)
      → (b : Bool) → bytes_eq k c ≡ b
      → pick c put (g None) (member k d ms) ≡ g (get_member c (member k d ms))
  one_more k d ms s later true b =
      ap (λ t. pick c put (cond t (put (g None) d) (g None)) ms) b
      ∙ pick_none c put (put (g None) d) ms (others_behind c k d ms s b)
      ∙ same d ∙ ap g (sym (found_here c k d ms b))
  one_more k d ms s later false b =
      ap (λ t. pick c put (cond t (put (g None) d) (g None)) ms) b
      ∙ later ∙ ap g (sym (found_behind c k d ms b))

  picked : (ms : Members) → AreInOrder ms → pick c put (g None) ms ≡ g (get_member c ms)
  picked no_members s = refl
  picked (member k d ms) s = one_more k d ms s (picked ms (order_behind k d ms s)) (bytes_eq k c) refl

abbrev picked_row : Bool → Members → Row → Row
picked_row html ms r = record {
  key = r.key;
  name = pick (codes "name") put_name r.name ms;
  kind = pick (codes "kind") put_text r.kind ms;
  line_comment = pick (codes "line_comment") put_texts r.line_comment ms;
  multi_line_comments = pick (codes "multi_line_comments") put_pairs r.multi_line_comments ms;
  nested = pick (codes "nested") put_truth r.nested ms;
  nested_comments = pick (codes "nested_comments") put_pairs r.nested_comments ms;
  quotes = pick (codes "quotes") put_pairs r.quotes ms;
  verbatim_quotes = pick (codes "verbatim_quotes") put_pairs r.verbatim_quotes ms;
  doc_quotes = pick (codes "doc_quotes") put_pairs r.doc_quotes ms;
  literate = pick (codes "literate") put_truth r.literate ms;
  blank = pick (codes "blank") put_truth r.blank ms;
  important_syntax = pick (codes "important_syntax") put_texts r.important_syntax ms;
  extensions = pick (codes "extensions") put_texts r.extensions ms;
  filenames = pick (codes "filenames") put_texts r.filenames ms;
  path_suffixes = pick (codes "path_suffixes") put_texts r.path_suffixes ms;
  mime = pick (codes "mime") put_texts r.mime ms;
  shebangs = pick (codes "shebangs") put_texts r.shebangs ms;
  env = pick (codes "env") put_texts r.env ms;
  contexts = pick (codes "contexts") (put_tags html) r.contexts ms;
}

each_picked : (html : Bool) (ms : Members) (r : Row) → filled html ms r ≡ picked_row html ms r
each_picked html no_members r = refl
each_picked html (member k d ms) r = each_picked html ms (with_member html k d r)

name_same : (key : List ℕ) (d : Data) → put_name key d ≡ name_or key (text_of d)
name_same key (string t) = refl
name_same key d = refl

kind_same : (d : Data) → put_text [] d ≡ kind_at (Some d)
kind_same (string t) = refl
kind_same d = refl

texts_same : (d : Data) → put_texts [] d ≡ texts_at (Some d)
texts_same (array ds) = refl
texts_same d = refl

pairs_same : (d : Data) → put_pairs [] d ≡ pairs_at (Some d)
pairs_same (array ds) = refl
pairs_same d = refl

truth_same : (d : Data) → put_truth false d ≡ truth_at (Some d)
truth_same (boolean b) = refl
truth_same d = refl

no_tags : (html : Bool) → [] ≡ tags_at html None
no_tags true = refl
no_tags false = refl

tags_same : (html : Bool) (d : Data) → put_tags html (tags_at html None) d ≡ tags_at html (Some d)
tags_same true (array ds) = refl
tags_same true d = refl
tags_same false (array ds) = refl
tags_same false d = refl

made : List ℕ → List ℕ → List ℕ → List (List ℕ) → List Pair → Bool → List Pair → List Pair → List Pair → List Pair → Bool → Bool → List (List ℕ)
    → List (List ℕ) → List (List ℕ) → List (List ℕ) → List (List ℕ) → List (List ℕ) → List (List ℕ) → List (List ℕ) → Row
made key name kind line_comment multi_line_comments nested nested_comments quotes verbatim_quotes doc_quotes literate blank important_syntax
    extensions filenames path_suffixes mime shebangs env contexts = record {
      key = key;
      name = name;
      kind = kind;
      line_comment = line_comment;
      multi_line_comments = multi_line_comments;
      nested = nested;
      nested_comments = nested_comments;
      quotes = quotes;
      verbatim_quotes = verbatim_quotes;
      doc_quotes = doc_quotes;
      literate = literate;
      blank = blank;
      important_syntax = important_syntax;
      extensions = extensions;
      filenames = filenames;
      path_suffixes = path_suffixes;
      mime = mime;
      shebangs = shebangs;
      env = env;
      contexts = contexts;
    }

same_made : (key : List ℕ) (a0 b0 : List ℕ) (a1 b1 : List ℕ) (a2 b2 : List (List ℕ)) (a3 b3 : List Pair) (a4 b4 : Bool) (a5 b5 : List Pair)
    (a6 b6 : List Pair) (a7 b7 : List Pair) (a8 b8 : List Pair) (a9 b9 : Bool) (a10 b10 : Bool) (a11 b11 : List (List ℕ)) (a12 b12 : List (List ℕ))
    (a13 b13 : List (List ℕ)) (a14 b14 : List (List ℕ)) (a15 b15 : List (List ℕ)) (a16 b16 : List (List ℕ)) (a17 b17 : List (List ℕ))
    (a18 b18 : List (List ℕ))
    → a0 ≡ b0 → a1 ≡ b1 → a2 ≡ b2 → a3 ≡ b3 → a4 ≡ b4 → a5 ≡ b5 → a6 ≡ b6 → a7 ≡ b7 → a8 ≡ b8 → a9 ≡ b9 → a10 ≡ b10 → a11 ≡ b11 → a12 ≡ b12
    → a13 ≡ b13 → a14 ≡ b14 → a15 ≡ b15 → a16 ≡ b16 → a17 ≡ b17 → a18 ≡ b18
    → made key a0 a1 a2 a3 a4 a5 a6 a7 a8 a9 a10 a11 a12 a13 a14 a15 a16 a17 a18 ≡ made key b0 b1 b2 b3 b4 b5 b6 b7 b8 b9 b10 b11 b12 b13 b14 b15 b16 b17 b18
same_made key a0 b0 a1 b1 a2 b2 a3 b3 a4 b4 a5 b5 a6 b6 a7 b7 a8 b8 a9 b9 a10 b10 a11 b11 a12 b12 a13 b13 a14 b14 a15 b15 a16 b16 a17 b17 a18 b18 e0
    e1 e2 e3 e4 e5 e6 e7 e8 e9 e10 e11 e12 e13 e14 e15 e16 e17 e18 = cc

pub row_of_members : (key : List ℕ) (ms : Members) → AreInOrder ms
    → filled (is_html_kind (get_member (codes "kind") ms)) ms (new_row key) ≡ row_in key (object ms)
unfolding row_in made
row_of_members key ms s =
    let html = is_html_kind (get_member (codes "kind") ms) in
    each_picked html ms (new_row key)
    ∙ same_made key
    _ _
    _ _
    _ _
    _ _
    _ _
    _ _
    _ _
    _ _
    _ _
    _ _
    _ _
    _ _
    _ _
    _ _
    _ _
    _ _
    _ _
    _ _
    _ _
    (picked (codes "name") put_name (λ o. name_or key (text_at o)) (name_same key) ms s)
    (picked (codes "kind") put_text (kind_at) (kind_same) ms s)
    (picked (codes "line_comment") put_texts (texts_at) (texts_same) ms s)
    (picked (codes "multi_line_comments") put_pairs (pairs_at) (pairs_same) ms s)
    (picked (codes "nested") put_truth (truth_at) (truth_same) ms s)
    (picked (codes "nested_comments") put_pairs (pairs_at) (pairs_same) ms s)
    (picked (codes "quotes") put_pairs (pairs_at) (pairs_same) ms s)
    (picked (codes "verbatim_quotes") put_pairs (pairs_at) (pairs_same) ms s)
    (picked (codes "doc_quotes") put_pairs (pairs_at) (pairs_same) ms s)
    (picked (codes "literate") put_truth (truth_at) (truth_same) ms s)
    (picked (codes "blank") put_truth (truth_at) (truth_same) ms s)
    (picked (codes "important_syntax") put_texts (texts_at) (texts_same) ms s)
    (picked (codes "extensions") put_texts (texts_at) (texts_same) ms s)
    (picked (codes "filenames") put_texts (texts_at) (texts_same) ms s)
    (picked (codes "path_suffixes") put_texts (texts_at) (texts_same) ms s)
    (picked (codes "mime") put_texts (texts_at) (texts_same) ms s)
    (picked (codes "shebangs") put_texts (texts_at) (texts_same) ms s)
    (picked (codes "env") put_texts (texts_at) (texts_same) ms s)
    (ap (λ x. pick (codes "contexts") (put_tags html) x ms) (no_tags html)
    ∙ picked (codes "contexts") (put_tags html) (tags_at html) (tags_same html) ms s)
