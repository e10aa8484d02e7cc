-- Which word names which column.
use Rattle.std.specs.Prelude.{ℕ, List, [], ◌∷◌, Bool, Option, bytes_eq, codes, find}
use Rattle.std.specs.Str.{str_to_ascii_lowercase}
use Rattle.tokei_options.specs.declared.sort.Sort.{Sort}
use Rattle.tokei_options.specs.declared.sort.Sort.TheVariants.{Blanks, Comments, Code, Files, Lines}

-- The word of each column.
abbrev pub word_of : Sort → List ℕ
word_of Blanks = codes "blanks"
word_of Comments = codes "comments"
word_of Code = codes "code"
word_of Files = codes "files"
word_of Lines = codes "lines"

-- All columns, in their order.
abbrev pub columns : List Sort
columns = Blanks ∷ Comments ∷ Code ∷ Files ∷ Lines ∷ []

-- Whether the word is that of the column, in any ASCII case.
abbrev pub names_column : List ℕ → Sort → Bool
names_column word column = bytes_eq (str_to_ascii_lowercase word) (word_of column)

-- The column that a word names, in any ASCII case.
abbrev pub sort_of_word : List ℕ → Option Sort
sort_of_word word = find (names_column word) columns
