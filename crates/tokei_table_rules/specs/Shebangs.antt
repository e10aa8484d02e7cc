-- Which language of a table the head of a script stands for.
use Rattle.std.specs.Prelude.{ℕ, Bool, if◌then◌else◌, List, [], ◌∷◌, Option, None, bytes_eq, codes}
use Rattle.std.specs.Prelude.{take, drop}
use Rattle.std.specs.Str.{is_utf8}
use Rattle.tokei_table_row.specs.Bytes.{line_len, solid_len, trim_start, begins_with_one}
use Rattle.tokei_table_rules.specs.Lookups.{first_where, or_else, holds}
use Rattle.tokei_table_row.specs.Row.{Row}

-- The first longest run of bytes that aren't blank, and what stands behind it.
abbrev pub first_word : List ℕ → List ℕ
first_word text = take (solid_len (trim_start text)) (trim_start text)

-- What stands behind the first word.
abbrev pub behind_word : List ℕ → List ℕ
behind_word text = drop (solid_len (trim_start text)) (trim_start text)

-- A text of `env` begins the name of the program.
abbrev pub has_env : List ℕ → Row → Bool
has_env program row = begins_with_one row.env program

-- By the program that `#!/usr/bin/env` starts, where one is named.
abbrev pub from_env : List Row → List ℕ → Option ℕ
from_env rows [] = None
from_env rows (b ∷ program) = first_where (has_env (b ∷ program)) rows

-- The word is one of the shebangs.
abbrev pub has_shebang : List ℕ → Row → Bool
has_shebang word row = holds row.shebangs word

-- By the first word, else by the second where the first is `#!/usr/bin/env`.
abbrev pub from_words : List Row → List ℕ → List ℕ → Option ℕ
from_words rows [] rest = None
from_words rows (b ∷ word) rest =
    or_else (first_where (has_shebang (b ∷ word)) rows) (
    if bytes_eq (b ∷ word) (codes "#!/usr/bin/env") then from_env rows (first_word rest) else None)

-- A file's head is its first bytes, at most so many.
abbrev pub head_len : ℕ
head_len = 128

-- The first line of the head.
abbrev pub head_line : List ℕ → List ℕ
head_line head = take (line_len (take head_len head)) (take head_len head)

-- By that line, which has to be UTF-8.
abbrev pub from_line : List Row → List ℕ → Option ℕ
from_line rows line =
    if is_utf8 line then from_words rows (first_word line) (behind_word line) else None

-- By the head of a file.
abbrev pub from_shebang : List Row → List ℕ → Option ℕ
from_shebang rows head = from_line rows (head_line head)
