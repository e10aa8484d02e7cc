-- The layout of a language, asked of one member after the other: whether a value may stand at its
-- key.
use Rattle.std.specs.Prelude.{ℕ, Bool, true, ◌&&◌, if◌then◌else◌, List, bytes_eq, codes}
use Rattle.serde_json.specs.Data.{Data, Members, no_members, member}
use Rattle.tokei_table_json.specs.Layout.{is_text_pair, is_context}
use Rattle.tokei_json_tree.specs.Shapes.{is_text, is_truth_value, is_list}

-- Whether each member passes the test of its key and its value.
abbrev pub all_members : (List ℕ → Data → Bool) → Members → Bool
all_members test no_members = true
all_members test (member k d ms) = test k d && all_members test ms

-- A member that holds comments; others pass.
abbrev pub fits_comments : List ℕ → Data → Bool
fits_comments key value =
    if bytes_eq key (codes "line_comment") then is_list is_text value
    else (if bytes_eq key (codes "multi_line_comments") then is_list is_text_pair value
    else (if bytes_eq key (codes "nested") then is_truth_value value
    else (if bytes_eq key (codes "nested_comments") then is_list is_text_pair value
    else true)))

-- A member that holds string literals; others pass.
abbrev pub fits_literals : List ℕ → Data → Bool
fits_literals key value =
    if bytes_eq key (codes "quotes") then is_list is_text_pair value
    else (if bytes_eq key (codes "verbatim_quotes") then is_list is_text_pair value
    else (if bytes_eq key (codes "doc_quotes") then is_list is_text_pair value
    else true))

-- A member by which a language is found; others pass.
abbrev pub fits_finders : List ℕ → Data → Bool
fits_finders key value =
    if bytes_eq key (codes "extensions") then is_list is_text value
    else (if bytes_eq key (codes "filenames") then is_list is_text value
    else (if bytes_eq key (codes "path_suffixes") then is_list is_text value
    else (if bytes_eq key (codes "mime") then is_list is_text value
    else (if bytes_eq key (codes "shebangs") then is_list is_text value
    else (if bytes_eq key (codes "env") then is_list is_text value
    else true)))))

-- One of the other members, by whether the language is of kind `html`; others pass.
abbrev pub fits_traits : Bool → List ℕ → Data → Bool
fits_traits html key value =
    if bytes_eq key (codes "name") then is_text value
    else (if bytes_eq key (codes "kind") then is_text value
    else (if bytes_eq key (codes "literate") then is_truth_value value
    else (if bytes_eq key (codes "blank") then is_truth_value value
    else (if bytes_eq key (codes "important_syntax") then is_list is_text value
    else (if bytes_eq key (codes "contexts") then is_list (is_context html) value
    else true)))))

-- Whether the value may stand at its key in a language, which is of kind `html` or not.
abbrev pub fits : Bool → List ℕ → Data → Bool
fits html key value = fits_comments key value &&
    (fits_literals key value && (fits_finders key value && fits_traits html key value))
