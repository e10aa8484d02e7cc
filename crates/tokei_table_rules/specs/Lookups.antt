-- Which language of a table a word, a MIME type or the name of a file stands for.
pub use Rattle.tokei_table_row.specs.Bytes.{holds}
pub use Rattle.tokei_table_row.specs.FirstRows.{first_where, has_name}
use Rattle.std.specs.Prelude.{ℕ, Bool, ◌==◌, if◌then◌else◌, List, [], ◌∷◌, bytes_eq, slice_index_or}
use Rattle.std.specs.Prelude.{Option, Some, None}
use Rattle.std.specs.List.{list_any}
use Rattle.std.specs.Str.{str_to_ascii_lowercase}
use Rattle.tokei_table_row.specs.Bytes.{ends}
use Rattle.tokei_table_row.specs.NewRow.{new_row}
use Rattle.tokei_table_row.specs.Row.{Row}

-- The row at a language's place.
abbrev pub row_at : List Row → ℕ → Row
row_at rows language = slice_index_or rows language (new_row [])

-- The first answer, or the second where there is none.
abbrev pub or_else : Option ℕ → Option ℕ → Option ℕ
or_else None other = other
or_else (Some l) other = Some l

-- The condition of `from_str`: the word and the name are the same in any ASCII case.
abbrev pub has_name_in_any_case : List ℕ → Row → Bool
has_name_in_any_case word row =
    bytes_eq (str_to_ascii_lowercase row.name) (str_to_ascii_lowercase word)

-- The condition of `from_mime`: it is one of the MIME types.
abbrev pub has_mime : List ℕ → Row → Bool
has_mime mime row = holds row.mime mime

-- The condition of `from_file_extension`: it is one of the extensions.
abbrev pub has_extension : List ℕ → Row → Bool
has_extension extension row = holds row.extensions extension

-- The lowered name is one of the whole names.
abbrev pub has_filename : List ℕ → Row → Bool
has_filename name row = holds row.filenames name

-- Whether one of the texts is a suffix of the name.
unfoldable pub ends_with_one : List (List ℕ) → List ℕ → Bool
ends_with_one suffixes name = list_any (λ s. ends s name) suffixes

-- A text of `path_suffixes` is a suffix of the lowered name.
abbrev pub has_path_suffix : List ℕ → Row → Bool
has_path_suffix name row = ends_with_one row.path_suffixes name

-- The byte of a dot, `.`.
abbrev pub dot : ℕ
dot = 46

-- What stands behind the last dot, by whether the first byte is one and by what stands behind a
-- later one.
abbrev pub behind_dot : Bool → List ℕ → Option (List ℕ) → Option (List ℕ)
behind_dot is_dot text (Some later) = Some later
behind_dot is_dot text None = if is_dot then Some text else None

-- What stands behind the last dot of a text.
abbrev pub behind_last_dot : List ℕ → Option (List ℕ)
behind_last_dot [] = None
behind_last_dot (b ∷ t) = behind_dot (b == dot) t (behind_last_dot t)

-- A name's extension is what follows its last dot, where that dot isn't the name's first byte; it
-- may be empty.
abbrev pub extension_of : List ℕ → Option (List ℕ)
extension_of [] = None
extension_of (b ∷ t) = behind_last_dot t

-- By an extension, where there is one.
abbrev pub from_extension : List Row → Option (List ℕ) → Option ℕ
from_extension rows None = None
from_extension rows (Some extension) = first_where (has_extension extension) rows

-- By the lowered name of a file: a whole name, else a suffix, else the extension.
abbrev pub from_lowered_name : List Row → List ℕ → Option ℕ
from_lowered_name rows name =
    or_else (first_where (has_filename name) rows) (
    or_else (first_where (has_path_suffix name) rows) (
    from_extension rows (extension_of name)))

-- By the name of a file alone.
abbrev pub from_file_name : List Row → List ℕ → Option ℕ
from_file_name rows name = from_lowered_name rows (str_to_ascii_lowercase name)
