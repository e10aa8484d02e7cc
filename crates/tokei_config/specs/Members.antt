-- What a value of a configuration file stands for, where it can be read.
use Rattle.std.specs.Prelude.{ℕ, ℤ, pos, negsuc, List, [], ◌∷◌, Option, Some, None, option_map, option_and_then}
use Rattle.toml.specs.Data.{Data, Items, no_items, item, as_integer, as_str, as_array}
use Rattle.tokei_options.specs.declared.sort.Sort.{Sort}
use Rattle.tokei_options.specs.Sorts.{sort_of_word}
use Rattle.tokei_table.specs.Lookups.{first_where, has_name}
use Rattle.tokei_table.specs.Row.{Row}

-- A member that may be missing. Nothing is answered where it is there and can't be read.
abbrev pub optional : {X : Type 0} → (Data → Option X) → Option Data → Option (Option X)
optional read None = Some None
optional read (Some d) = option_map (λ x. Some x) (read d)

-- A number that isn't below 0.
abbrev pub natural_of : ℤ → Option ℕ
natural_of (pos n) = Some n
natural_of (negsuc n) = None

-- A whole number that isn't below 0.
abbrev pub as_count : Data → Option ℕ
as_count value = option_and_then natural_of (as_integer value)

-- The word of a column.
abbrev pub as_sort : Data → Option Sort
as_sort value = option_and_then sort_of_word (as_str value)

-- What each item stands for; nothing where one of them can't be read.
abbrev pub all_of : {X : Type 0} → (Data → Option X) → Items → Option (List X)
all_of read no_items = Some []
all_of read (item d ds) = option_and_then (λ x. option_map (λ xs. x ∷ xs) (all_of read ds)) (read d)

-- The language of which a text is the key or the name, letter by letter.
abbrev pub as_language : List Row → Data → Option ℕ
as_language rows value = option_and_then (λ word. first_where (has_name word) rows) (as_str value)

-- A list of languages.
abbrev pub as_languages : List Row → Data → Option (List ℕ)
as_languages rows value = option_and_then (all_of (as_language rows)) (as_array value)

-- A list of texts.
abbrev pub as_texts : Data → Option (List (List ℕ))
as_texts value = option_and_then (all_of as_str) (as_array value)
