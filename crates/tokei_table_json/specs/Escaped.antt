-- Where the texts of a table have no escapes but the known ones; keys and the member `kind` have
-- none at all.
use Rattle.std.specs.Prelude.{Bool, true, ◌&&◌, ◌||◌, not, Option, Some, codes}
use Rattle.serde_json.specs.Data.{Data, string, array, object, Members, no_members, member}
use Rattle.serde_json.specs.Find.{get}
use Rattle.tokei_table_json.specs.Escapes.{is_escaped_text}
use Rattle.tokei_table_json.specs.Layout.{is_html_kind}
use Rattle.tokei_json_tree.specs.Shapes.{absent_or, all_items}

-- A text's backslashes begin escapes.
abbrev pub is_escaped_value : Data → Bool
is_escaped_value (string t) = is_escaped_text t
is_escaped_value value = true

-- So do those of each text in a list.
abbrev pub is_escaped_list : Data → Bool
is_escaped_list (array ds) = all_items is_escaped_value ds
is_escaped_list value = true

-- So do those of each text in a list of pairs.
abbrev pub are_escaped_pairs : Data → Bool
are_escaped_pairs (array ds) = all_items is_escaped_list ds
are_escaped_pairs value = true

-- So do those of a context's tag.
abbrev pub is_escaped_context : Data → Bool
is_escaped_context value = absent_or is_escaped_value (get (codes "tag") value)

-- So do those of the tag of each context in a list.
abbrev pub are_escaped_contexts : Data → Bool
are_escaped_contexts (array ds) = all_items is_escaped_context ds
are_escaped_contexts value = true

-- The members that hold comments and string literals.
unfoldable pub has_escaped_tokens : Data → Bool
has_escaped_tokens value =
    absent_or is_escaped_list (get (codes "line_comment") value)
    && absent_or are_escaped_pairs (get (codes "multi_line_comments") value)
    && absent_or are_escaped_pairs (get (codes "nested_comments") value)
    && absent_or are_escaped_pairs (get (codes "quotes") value)
    && absent_or are_escaped_pairs (get (codes "verbatim_quotes") value)
    && absent_or are_escaped_pairs (get (codes "doc_quotes") value)

-- The members by which a language is found.
unfoldable pub has_escaped_finders : Data → Bool
has_escaped_finders value =
    absent_or is_escaped_list (get (codes "extensions") value)
    && absent_or is_escaped_list (get (codes "filenames") value)
    && absent_or is_escaped_list (get (codes "path_suffixes") value)
    && absent_or is_escaped_list (get (codes "mime") value)
    && absent_or is_escaped_list (get (codes "shebangs") value)
    && absent_or is_escaped_list (get (codes "env") value)

-- The other members; the tags are looked at in a language of kind `html` alone.
unfoldable pub has_escaped_traits : Data → Bool
has_escaped_traits value =
    absent_or is_escaped_value (get (codes "name") value)
    && absent_or is_escaped_list (get (codes "important_syntax") value)
    && (not (is_html_kind (get (codes "kind") value))
    || absent_or are_escaped_contexts (get (codes "contexts") value))

-- All members of a language.
abbrev pub is_escaped_language : Data → Bool
is_escaped_language value = has_escaped_tokens value && has_escaped_finders value &&
    has_escaped_traits value

-- Each member of `languages`.
abbrev pub are_escaped_languages : Members → Bool
are_escaped_languages no_members = true
are_escaped_languages (member k d ms) = is_escaped_language d && are_escaped_languages ms

-- Each language of a table has but the known escapes.
abbrev pub is_escaped_table : Option Data → Bool
is_escaped_table (Some (object ms)) = are_escaped_languages ms
is_escaped_table found = true
