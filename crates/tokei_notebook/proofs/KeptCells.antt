-- What is kept of a notebook tells the same cells as the whole.
use Rattle.std.proofs.Common.{◌≡◌, ℕ, List, [], ◌∷◌, Bool, true, false, ◌&&◌, ◌||◌, cond, if◌then◌else◌, Option, None, Some, option_map, codes, bytes_eq, true≢false, refl, sym, ap, ap₂, ◌∙◌}
use Rattle.std.proofs.lemmas.Slice.Eq.{bytes_eq-Decides}
use Rattle.json.specs.Find.{later_or, get as get_in_tree, get_member}
use Rattle.json.specs.Json.{Json, null, boolean, number, string, array, object, Items, no_items, item, Members, no_members, member}
use Rattle.serde_json.specs.Data.{Data}
use Rattle.serde_json.specs.Find.{get}
use Rattle.tokei_json_tree.proofs.Unordered.{last_found}
use Rattle.tokei_json_tree.specs.Unordered.{unordered_data, unordered_items}
use Rattle.tokei_notebook.specs.Cells.{Cell, cells_at, cells_in, cells_of, code_language, source_of}
use Rattle.tokei_notebook.specs.Kept.{is_kept_in_cell, kept_in_cell, kept_of_cell, kept_of_items, kept_of_cells, kept_in_notebook, kept_of_notebook}
use Rattle.tokei_notebook.specs.Layout.{has_metadata, has_notebook_layout, is_cell, is_code, is_markdown}
use Rattle.tokei_table.specs.Families.{fallback}
use Rattle.tokei_table.specs.Row.{Row}
use Rattle.tokei_json_tree.specs.Shapes.{all_items, is_list, is_text, stands_and}
use Rattle.tokei_notebook.proofs.KeptMembers.{cells_kept, member_kept, member_passed, metadata_kept, other_passed}

-- names that a test tells apart
apart : (test : List ℕ → Bool) (k name : List ℕ) (b : Bool) → test k ≡ b → test name ≡ (if b then false else true) → bytes_eq k name ≡ false
apart test k name b e f = by_test (bytes_eq k name) refl
  where
    clash : (c : Bool) → c ≡ (if c then false else true) → ⊥
    clash true h = true≢false h
    clash false h = true≢false (sym h)

    by_test : (c : Bool) → bytes_eq k name ≡ c → c ≡ false
    by_test true h = absurd (clash b (sym e ∙ ap test ((bytes_eq-Decides k name).0 h) ∙ f))
    by_test false h = refl

-- a member of another name
none_later : (o : Option Json) → later_or o None ≡ o
none_later None = refl
none_later (Some j) = refl

other : (o : Option Json) (b : Bool) (j : Json) → b ≡ false → later_or o (cond b (Some j) None) ≡ o
other o b j e = ap (λ c. later_or o (cond c (Some j) None)) e ∙ none_later o

found_in_cell : (name : List ℕ) → is_kept_in_cell name ≡ true → (ms : Members) → get_member name (kept_in_cell ms) ≡ get_member name ms
found_in_cell name e no_members = refl
found_in_cell name e (member k j ms) = by_test (is_kept_in_cell k) refl (found_in_cell name e ms)
  where
    by_test : (b : Bool) → is_kept_in_cell k ≡ b → get_member name (kept_in_cell ms) ≡ get_member name ms
        → get_member name (kept_in_cell (member k j ms)) ≡ get_member name (member k j ms)
    by_test true h behind =
        ap (get_member name) (member_kept k j ms h) ∙ ap (λ o. later_or o (cond (bytes_eq k name) (Some j) None)) behind
    by_test false h behind =
        ap (get_member name) (member_passed k j ms h) ∙ behind
        ∙ sym (other (get_member name ms) (bytes_eq k name) j (apart is_kept_in_cell k name false h e))

in_cell : (name : List ℕ) → is_kept_in_cell name ≡ true → (j : Json) → get name (unordered_data (kept_of_cell j)) ≡ get name (unordered_data j)
in_cell name e j = last_found name (kept_of_cell j) ∙ ap (option_map unordered_data) (by_kind j) ∙ sym (last_found name j)
  where
    by_kind : (j : Json) → get_in_tree name (kept_of_cell j) ≡ get_in_tree name j
    by_kind null = refl
    by_kind (boolean b) = refl
    by_kind (number s) = refl
    by_kind (string s) = refl
    by_kind (array js) = refl
    by_kind (object ms) = found_in_cell name e ms

same_type : (j : Json) → get (codes "cell_type") (unordered_data (kept_of_cell j)) ≡ get (codes "cell_type") (unordered_data j)
same_type = in_cell (codes "cell_type") refl

same_source : (j : Json) → get (codes "source") (unordered_data (kept_of_cell j)) ≡ get (codes "source") (unordered_data j)
same_source = in_cell (codes "source") refl

same_cell : (j : Json) → is_cell (unordered_data (kept_of_cell j)) ≡ is_cell (unordered_data j)
unfolding is_cell
same_cell j =
    ap₂ (λ t s. stands_and (λ k. is_markdown k || is_code k) t && stands_and (is_list is_text) s) (same_type j) (same_source j)

all_same : (js : Items) → all_items is_cell (unordered_items (kept_of_items js)) ≡ all_items is_cell (unordered_items js)
all_same no_items = refl
all_same (item j js) = ap₂ (λ a b. a && b) (same_cell j) (all_same js)

module _ (markdown code : ℕ) where
  abbrev cell_by : Option Data → Option Data → Cell
  cell_by kind source = record { language = if stands_and is_markdown kind then markdown else code; source = source_of source }

  same_cells : (js : Items) → cells_in markdown code (unordered_items (kept_of_items js)) ≡ cells_in markdown code (unordered_items js)
  same_cells no_items = refl
  same_cells (item j js) = ap₂ (λ c cs. c ∷ cs) (ap₂ cell_by (same_type j) (same_source j)) (same_cells js)

  at_same : (o : Option Json) → cells_at markdown code (option_map unordered_data (option_map kept_of_cells o)) ≡ cells_at markdown code (option_map unordered_data o)
  at_same None = refl
  at_same (Some null) = refl
  at_same (Some (boolean b)) = refl
  at_same (Some (number s)) = refl
  at_same (Some (string s)) = refl
  at_same (Some (array js)) = same_cells js
  at_same (Some (object ms)) = refl

list_same : (o : Option Json) → stands_and (is_list is_cell) (option_map unordered_data (option_map kept_of_cells o)) ≡ stands_and (is_list is_cell) (option_map unordered_data o)
list_same None = refl
list_same (Some null) = refl
list_same (Some (boolean b)) = refl
list_same (Some (number s)) = refl
list_same (Some (string s)) = refl
list_same (Some (array js)) = all_same js
list_same (Some (object ms)) = refl

-- the last member is found where all before it are searched
found_as : (f : Json → Json) (o : Option Json) (b : Bool) (j : Json)
    → later_or (option_map f o) (cond b (Some (f j)) None) ≡ option_map f (later_or o (cond b (Some j) None))
found_as f None true j = refl
found_as f None false j = refl
found_as f (Some x) b j = refl

cells_found : (ms : Members) → get_member (codes "cells") (kept_in_notebook ms) ≡ option_map kept_of_cells (get_member (codes "cells") ms)
cells_found no_members = refl
cells_found (member k j ms) = by_tests (bytes_eq k (codes "cells")) (bytes_eq k (codes "metadata")) refl refl (cells_found ms)
  where
    name : List ℕ
    name = codes "cells"

    without : bytes_eq k name ≡ false → option_map kept_of_cells (get_member name (member k j ms)) ≡ option_map kept_of_cells (get_member name ms)
    without e = ap (option_map kept_of_cells) (other (get_member name ms) (bytes_eq k name) j e)

    by_tests : (a b : Bool) → bytes_eq k name ≡ a → bytes_eq k (codes "metadata") ≡ b
        → get_member name (kept_in_notebook ms) ≡ option_map kept_of_cells (get_member name ms)
        → get_member name (kept_in_notebook (member k j ms)) ≡ option_map kept_of_cells (get_member name (member k j ms))
    by_tests true b e f behind =
        ap (get_member name) (cells_kept k j ms e)
        ∙ ap (λ o. later_or o (cond (bytes_eq k name) (Some (kept_of_cells j)) None)) behind
        ∙ found_as kept_of_cells (get_member name ms) (bytes_eq k name) j
    by_tests false true e f behind =
        ap (get_member name) (metadata_kept k j ms e f)
        ∙ other (get_member name (kept_in_notebook ms)) (bytes_eq k name) j e ∙ behind ∙ sym (without e)
    by_tests false false e f behind = ap (get_member name) (other_passed k j ms e f) ∙ behind ∙ sym (without e)

metadata_found : (ms : Members) → get_member (codes "metadata") (kept_in_notebook ms) ≡ get_member (codes "metadata") ms
metadata_found no_members = refl
metadata_found (member k j ms) = by_tests (bytes_eq k (codes "cells")) (bytes_eq k (codes "metadata")) refl refl (metadata_found ms)
  where
    name : List ℕ
    name = codes "metadata"

    by_tests : (a b : Bool) → bytes_eq k (codes "cells") ≡ a → bytes_eq k name ≡ b
        → get_member name (kept_in_notebook ms) ≡ get_member name ms
        → get_member name (kept_in_notebook (member k j ms)) ≡ get_member name (member k j ms)
    by_tests true b e f behind =
        let not_here = apart (λ n. bytes_eq n (codes "cells")) k name true e refl in
        ap (get_member name) (cells_kept k j ms e)
        ∙ other (get_member name (kept_in_notebook ms)) (bytes_eq k name) (kept_of_cells j) not_here ∙ behind
        ∙ sym (other (get_member name ms) (bytes_eq k name) j not_here)
    by_tests false true e f behind =
        ap (get_member name) (metadata_kept k j ms e f) ∙ ap (λ o. later_or o (cond (bytes_eq k name) (Some j) None)) behind
    by_tests false false e f behind =
        ap (get_member name) (other_passed k j ms e f) ∙ behind ∙ sym (other (get_member name ms) (bytes_eq k name) j f)

-- the cells of an object, by its two members
module _ (rows : List Row) (notebook : ℕ) where
  abbrev cells_by : Bool → Option Data → List Cell → List Cell
  cells_by stands metadata cells = if stands && stands_and has_metadata metadata then cells else []

  of_object : (ms : Members) → cells_of rows notebook (Some (unordered_data (object (kept_in_notebook ms)))) ≡ cells_of rows notebook (Some (unordered_data (object ms)))
  unfolding cells_of has_notebook_layout
  of_object ms =
      let whole = unordered_data (object ms) in
      let kept = unordered_data (object (kept_in_notebook ms)) in
      let o = get_member (codes "cells") ms in
      let markdown = fallback rows notebook (codes "Markdown") in
      let language = λ (d : Data). code_language rows notebook (get (codes "metadata") d) in
      let metadata : get (codes "metadata") kept ≡ get (codes "metadata") whole =
      last_found (codes "metadata") (object (kept_in_notebook ms)) ∙ ap (option_map unordered_data) (metadata_found ms)
      ∙ sym (last_found (codes "metadata") (object ms)) in
      let cells : get (codes "cells") kept ≡ option_map unordered_data (option_map kept_of_cells o) =
      last_found (codes "cells") (object (kept_in_notebook ms)) ∙ ap (option_map unordered_data) (cells_found ms) in
      let here = sym (last_found (codes "cells") (object ms)) in
      let stands = ap (stands_and (is_list is_cell)) cells ∙ list_same o ∙ ap (stands_and (is_list is_cell)) here in
      let code = ap (code_language rows notebook) metadata in
      let listed = ap (cells_at markdown (language kept)) cells ∙ at_same markdown (language kept) o ∙ ap (cells_at markdown (language kept)) here
      ∙ ap (λ c. cells_at markdown c (get (codes "cells") whole)) code in
      ap (λ b. cells_by b (get (codes "metadata") kept) (cells_at markdown (language kept) (get (codes "cells") kept))) stands
      ∙ ap₂ (cells_by (stands_and (is_list is_cell) (get (codes "cells") whole))) metadata listed

  pub of_kept : (j : Json) → cells_of rows notebook (Some (unordered_data (kept_of_notebook j))) ≡ cells_of rows notebook (Some (unordered_data j))
  of_kept null = refl
  of_kept (boolean b) = refl
  of_kept (number s) = refl
  of_kept (string s) = refl
  of_kept (array js) = refl
  of_kept (object ms) = of_object ms
