-- Which rows have a text, by groups of texts: an index that a look-up goes by, in place of a walk
-- over the table.
use Rattle.std.specs.Prelude.{◌≡◌, ℕ, ◌+◌, ◌*◌, ◌%◌, ◌<◌, ◌==◌, Bool, false, if◌then◌else◌, List, [], ◌∷◌, ◌++◌, length}
use Rattle.std.specs.Prelude.{zero, suc, ◌≤◌, nat_lt, slice_index, slice_index_or, Option, Some, None}
use Rattle.std.specs.List.{list_any, slice_range}
use Rattle.std.specs.Str.{str_to_ascii_lowercase}
use Rattle.tokei_table_row.specs.Row.{Row}
use Rattle.tokei_table_rules.specs.Lookups.{row_at, has_name, has_name_in_any_case}
use Rattle.tokei_table_rules.specs.Lookups.{has_extension, has_filename, has_path_suffix}
use Rattle.tokei_table_rules.specs.PathSuffixes.{tail_of, suffix_tails, has_short_suffix}
use Rattle.tokei_table_rules.specs.declared.text_index.TextKind.{TextKind}
use Rattle.tokei_table_rules.specs.declared.text_index.TextKind.TheVariants.{Names, LoweredNames}
use Rattle.tokei_table_rules.specs.declared.text_index.TextKind.TheVariants.{Extensions, Filenames}
use Rattle.tokei_table_rules.specs.declared.text_index.TextKind.TheVariants.{SuffixTails}

-- The number of a text's group, by its first two bytes.
abbrev pub group_of : List ℕ → ℕ
group_of [] = 0
group_of (a ∷ []) = a
group_of (a ∷ b ∷ t) = (a + 37 * b) % 256

-- The group of each of a row's texts, beside the row's place.
abbrev pub entries_of : ℕ → List (List ℕ) → List (ℕ × ℕ)
entries_of place [] = []
entries_of place (t ∷ ts) = (group_of t, place) ∷ entries_of place ts

-- The same of all rows, of which the first has that place.
abbrev pub entries_from : (Row → List (List ℕ)) → ℕ → List Row → List (ℕ × ℕ)
entries_from texts place [] = []
entries_from texts place (r ∷ rs) = entries_of place (texts r) ++ entries_from texts (place + 1) rs

-- The texts that name a row.
abbrev pub names : Row → List (List ℕ)
names row = row.key ∷ row.name ∷ []

-- Its name in ASCII lower case, alone in a list.
abbrev pub lowered_name : Row → List (List ℕ)
lowered_name row = str_to_ascii_lowercase row.name ∷ []

-- The texts of a row that an index of that kind goes by.
abbrev pub texts_of : TextKind → Row → List (List ℕ)
texts_of Names = names
texts_of LoweredNames = lowered_name
texts_of Extensions = λ r. r.extensions
texts_of Filenames = λ r. r.filenames
texts_of SuffixTails = suffix_tails

-- The text by whose group a text is looked for in an index of that kind.
abbrev pub asked_by : TextKind → List ℕ → List ℕ
asked_by Names = λ t. t
asked_by LoweredNames = str_to_ascii_lowercase
asked_by Extensions = λ t. t
asked_by Filenames = λ t. t
asked_by SuffixTails = tail_of

-- The condition of a look-up in an index of that kind.
abbrev pub has_text : TextKind → List ℕ → Row → Bool
has_text Names = has_name
has_text LoweredNames = has_name_in_any_case
has_text Extensions = has_extension
has_text Filenames = has_filename
has_text SuffixTails = has_path_suffix

-- Whether an index of that kind may miss a row: one of path suffixes, where one is short.
abbrev pub misses_rows : TextKind → List Row → Bool
misses_rows Names rows = false
misses_rows LoweredNames rows = false
misses_rows Extensions rows = false
misses_rows Filenames rows = false
misses_rows SuffixTails rows = list_any has_short_suffix rows

-- The places that stand beside that group.
abbrev pub in_group : ℕ → List (ℕ × ℕ) → List ℕ
in_group g [] = []
in_group g (e ∷ es) = if e.0 == g then e.1 ∷ in_group g es else in_group g es

-- The places that an index of that kind has for the text.
abbrev pub places_of : TextKind → List ℕ → List Row → List ℕ
places_of kind text rows =
    in_group (group_of (asked_by kind text)) (entries_from (texts_of kind) 0 rows)

-- How many entries the groups before that one have, which is where its places begin.
abbrev pub begin_of : ℕ → List (ℕ × ℕ) → ℕ
begin_of g [] = 0
begin_of g (e ∷ es) = if nat_lt e.0 g then begin_of g es + 1 else begin_of g es

-- A number for each of the 256 groups.
pub record HasForEach (number : ℕ → ℕ) (numbers : List ℕ) : Type 0 where
  pub all : length numbers ≡ 256
  pub each : (g : ℕ) → g < 256 → slice_index numbers g ≡ number g

-- The parts of a list that end there, one after the other, of which the first begins at that place.
abbrev pub parts_from : ℕ → List ℕ → List ℕ → List (List ℕ)
parts_from begin [] places = []
parts_from begin (end ∷ ends) places = slice_range places begin end ∷ parts_from end ends places

-- Where the part of that number begins: where the one before it ends.
abbrev pub begin_at : List ℕ → ℕ → ℕ
begin_at ends zero = 0
begin_at ends (suc g) = slice_index ends g

-- The ends of 256 parts of a list.
pub record AreEnds (ends places : List ℕ) : Type 0 where
  pub all : length ends ≡ 256
  pub ascend : (g : ℕ) → g < 256 → begin_at ends g ≤ slice_index ends g
  pub within : (g : ℕ) → g < 256 → slice_index ends g ≤ length places

-- For each group the places that stand beside it.
pub record AreGroups (entries : List (ℕ × ℕ)) (groups : List (List ℕ)) : Type 0 where
  pub all : length groups ≡ 256
  pub each : (g : ℕ) → g < 256 → slice_index_or groups g [] ≡ in_group g entries

-- The first of the places at whose row the condition is true.
abbrev pub first_among : (Row → Bool) → List Row → List ℕ → Option ℕ
first_among test rows [] = None
first_among test rows (p ∷ ps) = if test (row_at rows p) then Some p else first_among test rows ps
