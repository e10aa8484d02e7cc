-- Which language a word in a text names. Bytes that aren't UTF-8 name none.
use Rattle.std.specs.Prelude.{ℕ, if◌then◌else◌, List, Option, None}
use Rattle.std.specs.Str.{is_utf8}
use Rattle.tokei_table.specs.Row.{Row}
use Rattle.tokei_table.specs.Lookups.{first_where, has_name, has_name_in_any_case, has_mime}

-- by the name in any ASCII case
abbrev pub by_word : List Row → List ℕ → Option ℕ
by_word rows word = if is_utf8 word then first_where (has_name_in_any_case word) rows else None

-- by the MIME type: the first language of the table that has it
abbrev pub by_mime : List Row → List ℕ → Option ℕ
by_mime rows mime = if is_utf8 mime then first_where (has_mime mime) rows else None

-- by the exact key or name
abbrev pub by_name : List Row → List ℕ → Option ℕ
by_name rows name = if is_utf8 name then first_where (has_name name) rows else None
