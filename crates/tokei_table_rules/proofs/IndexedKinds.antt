-- The places of an index lead to the first row that has the text, whichever kind of texts the index
-- goes by.
use Rattle.std.proofs.Common.{◌≡◌, ℕ, false, List, length, refl, arith}
use Rattle.std.specs.Str.{str_to_ascii_lowercase}
use Rattle.tokei_table_row.specs.Row.{Row}
use Rattle.tokei_table_rules.specs.Lookups.{first_where, has_name, has_name_in_any_case, has_extension, has_filename}
use Rattle.tokei_table_rules.specs.TextIndex.{group_of, first_among, names, lowered_name, texts_of, asked_by}
use Rattle.tokei_table_rules.specs.TextIndex.{has_text, misses_rows, places_of}
use Rattle.tokei_table_rules.specs.declared.text_index.TextKind.{TextKind}
use Rattle.tokei_table_rules.specs.declared.text_index.TextKind.TheVariants.{Names, LoweredNames}
use Rattle.tokei_table_rules.specs.declared.text_index.TextKind.TheVariants.{Extensions, Filenames}
use Rattle.tokei_table_rules.specs.declared.text_index.TextKind.TheVariants.{SuffixTails}
use Rattle.tokei_table_rules.proofs.PathSuffixes.{first_of_suffixed}
use Rattle.tokei_table_rules.proofs.TextIndex.{Below, places_below, first_of_group, is_name, is_lowered_name}

pub first_of_kind : (kind : TextKind) (text : List ℕ) (rows : List Row) → misses_rows kind rows ≡ false
    → first_among (has_text kind text) rows (places_of kind text rows) ≡ first_where (has_text kind text) rows
first_of_kind Names text rows long = first_of_group (has_name text) names text (is_name text) rows
first_of_kind LoweredNames text rows long =
    first_of_group (has_name_in_any_case text) lowered_name (str_to_ascii_lowercase text) (is_lowered_name text) rows
first_of_kind Extensions text rows long =
    first_of_group (has_extension text) (λ r. r.extensions) text (λ r. refl) rows
first_of_kind Filenames text rows long = first_of_group (has_filename text) (λ r. r.filenames) text (λ r. refl) rows
first_of_kind SuffixTails text rows long = first_of_suffixed text rows long

pub kind_below : (kind : TextKind) (text : List ℕ) (rows : List Row) → Below (length rows) (places_of kind text rows)
kind_below kind text rows =
    places_below (texts_of kind) (group_of (asked_by kind text)) (length rows) rows 0 (omega arith)
