-- The escapes of a language, asked of one member after the other.
use Rattle.std.specs.Prelude.{ℕ, Bool, true, ◌&&◌, if◌then◌else◌, not, ◌||◌, List, bytes_eq, codes}
use Rattle.serde_json.specs.Data.{Data}
use Rattle.tokei_table_json.specs.Escaped.{is_escaped_value, is_escaped_list, are_escaped_pairs, are_escaped_contexts}

-- A member that holds comments or string literals; others pass.
abbrev pub keeps_tokens : List ℕ → Data → Bool
keeps_tokens key value =
    if bytes_eq key (codes "line_comment") then is_escaped_list value
    else (if bytes_eq key (codes "multi_line_comments") then are_escaped_pairs value
    else (if bytes_eq key (codes "nested_comments") then are_escaped_pairs value
    else (if bytes_eq key (codes "quotes") then are_escaped_pairs value
    else (if bytes_eq key (codes "verbatim_quotes") then are_escaped_pairs value
    else (if bytes_eq key (codes "doc_quotes") then are_escaped_pairs value
    else true)))))

-- A member by which a language is found; others pass.
abbrev pub keeps_finders : List ℕ → Data → Bool
keeps_finders key value =
    if bytes_eq key (codes "extensions") then is_escaped_list value
    else (if bytes_eq key (codes "filenames") then is_escaped_list value
    else (if bytes_eq key (codes "path_suffixes") then is_escaped_list value
    else (if bytes_eq key (codes "mime") then is_escaped_list value
    else (if bytes_eq key (codes "shebangs") then is_escaped_list value
    else (if bytes_eq key (codes "env") then is_escaped_list value
    else true)))))

-- One of the other members; the tags are looked at in a language of kind `html` alone.
abbrev pub keeps_traits : Bool → List ℕ → Data → Bool
keeps_traits html key value =
    if bytes_eq key (codes "name") then is_escaped_value value
    else (if bytes_eq key (codes "important_syntax") then is_escaped_list value
    else (if bytes_eq key (codes "contexts") then not html || are_escaped_contexts value
    else true))

-- Whether the value has but the known escapes at its key in a language, which is of kind `html` or
-- not.
abbrev pub keeps_escapes : Bool → List ℕ → Data → Bool
keeps_escapes html key value =
    keeps_tokens key value && (keeps_finders key value && keeps_traits html key value)
