-- The language of a path in a known tree: by the path's name, and by the head of the file where the
-- name decides nothing and has no extension.
use Rattle.std.specs.Prelude.{ℕ, List, [], Option, None, is_some, unwrap_or, Result, Ok, Err, if◌then◌else◌}
use Rattle.std.specs.List.{last_or}
use Rattle.tokei_config.specs.Settings.{Settings, additions_in}
use Rattle.tokei_table.specs.Extended.{extended}
use Rattle.tokei_table.specs.Lookups.{or_else, extension_of, from_file_name}
use Rattle.tokei_table.specs.Row.{Row}
use Rattle.tokei_table.specs.Shebangs.{from_shebang}
use Rattle.tokei_folders.specs.declared.fs.Fault.{Fault}
use Rattle.tokei_folders.specs.Answers.{head_answer}
use Rattle.tokei_folders.specs.Tree.{Tree, node_at, names_of}

-- the name of a path is its last one; empty ones and `.` are none, and a path without names has the
-- empty text
unfoldable pub name_of : List ℕ → List ℕ
name_of path = unwrap_or (last_or None (names_of path)) []

-- by a head; one that can't be read stands for no language
abbrev pub from_head : List Row → Result (List ℕ) Fault → Option ℕ
from_head rows (Ok head) = from_shebang rows head
from_head rows (Err fault) = None

-- by the head of the file at a path
abbrev pub language_by_head : Tree → List Row → List ℕ → Option ℕ
language_by_head tree rows path = from_head rows (head_answer (node_at tree (names_of path)))

-- the language of the file at a path
abbrev pub language_by_path : Tree → List Row → List ℕ → Option ℕ
language_by_path tree rows path =
    or_else (from_file_name rows (name_of path)) (
    if is_some (extension_of (name_of path)) then None else language_by_head tree rows path)

-- the rows of the table in which languages have gained the extensions of the configuration
abbrev pub rows_by : List Row → Settings → List Row
rows_by rows settings = extended rows (additions_in settings)
