-- The layout of a table: which JSON values stand where.
use Rattle.std.specs.Prelude.{Bool, true, false, ◌&&◌, ◌||◌, not, Option, Some, None, bytes_eq, codes}
use Rattle.serde_json.specs.Data.{Data, string, array, object, Items, no_items, item, Members, no_members, member}
use Rattle.serde_json.specs.Find.{get}
use Rattle.serde_json.specs.Written.{has_float}
use Rattle.tokei_json_tree.specs.Shapes.{absent_or, stands_and, is_text, is_truth_value, is_list}

-- An object.
abbrev pub is_object : Data → Bool
is_object (object ms) = true
is_object value = false

-- Exactly two texts.
abbrev pub are_two_texts : Items → Bool
are_two_texts (item d (item e no_items)) = is_text d && is_text e
are_two_texts ds = false

-- A list of exactly two texts.
abbrev pub is_text_pair : Data → Bool
is_text_pair (array ds) = are_two_texts ds
is_text_pair value = false

-- The kind of a language is `html`.
abbrev pub is_html_kind : Option Data → Bool
is_html_kind (Some (string t)) = bytes_eq t (codes "html")
is_html_kind found = false

-- A context is an object; in a language of kind `html` it has a text `tag`.
abbrev pub is_context : Bool → Data → Bool
is_context html value = is_object value &&
    (not html || stands_and is_text (get (codes "tag") value))

-- The members that hold comments.
unfoldable pub has_comments : Data → Bool
has_comments value =
    absent_or (is_list is_text) (get (codes "line_comment") value)
    && absent_or (is_list is_text_pair) (get (codes "multi_line_comments") value)
    && absent_or is_truth_value (get (codes "nested") value)
    && absent_or (is_list is_text_pair) (get (codes "nested_comments") value)

-- The members that hold string literals.
unfoldable pub has_literals : Data → Bool
has_literals value =
    absent_or (is_list is_text_pair) (get (codes "quotes") value)
    && absent_or (is_list is_text_pair) (get (codes "verbatim_quotes") value)
    && absent_or (is_list is_text_pair) (get (codes "doc_quotes") value)

-- The members by which a language is found.
unfoldable pub has_finders : Data → Bool
has_finders value =
    absent_or (is_list is_text) (get (codes "extensions") value)
    && absent_or (is_list is_text) (get (codes "filenames") value)
    && absent_or (is_list is_text) (get (codes "path_suffixes") value)
    && absent_or (is_list is_text) (get (codes "mime") value)
    && absent_or (is_list is_text) (get (codes "shebangs") value)
    && absent_or (is_list is_text) (get (codes "env") value)

-- The other members.
unfoldable pub has_traits : Data → Bool
has_traits value =
    absent_or is_text (get (codes "name") value)
    && absent_or is_text (get (codes "kind") value)
    && absent_or is_truth_value (get (codes "literate") value)
    && absent_or is_truth_value (get (codes "blank") value)
    && absent_or (is_list is_text) (get (codes "important_syntax") value)
    && absent_or (is_list (is_context (is_html_kind (get (codes "kind") value))))
    (get (codes "contexts") value)

-- A language is an object whose members, where they stand, hold such values; others are passed
-- over.
abbrev pub is_language : Data → Bool
is_language value = is_object value && has_comments value && has_literals value && has_finders
    value && has_traits value

-- Whether each member's value is a language.
abbrev pub are_languages : Members → Bool
are_languages no_members = true
are_languages (member k d ms) = is_language d && are_languages ms

-- The members of the object that stands there, if one does.
abbrev pub object_in : Option Data → Option Members
object_in (Some (object ms)) = Some ms
object_in found = None

-- An object each of whose members is a language.
abbrev pub is_object_of_languages : Data → Bool
is_object_of_languages (object ms) = are_languages ms
is_object_of_languages value = false

-- A table is an object with an object `languages`; no number in it, wherever it stands, is but a
-- whole one of 64 bits.
unfoldable pub has_layout : Data → Bool
has_layout value = not (has_float value) && stands_and is_object_of_languages
    (get (codes "languages") value)
