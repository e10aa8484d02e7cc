-- The cells of a notebook.
use Rattle.std.specs.Prelude.{ℕ, ◌<◌, ⊤, if◌then◌else◌, List, [], ◌∷◌, ◌++◌, codes}
use Rattle.std.specs.Prelude.{Option, Some, None, option_and_then, unwrap_or}
use Rattle.serde_json.specs.Data.{Data, string, array, Items, no_items, item}
use Rattle.serde_json.specs.Find.{get}
use Rattle.tokei_table.specs.Families.{fallback}
use Rattle.tokei_json_tree.specs.Shapes.{stands_and}
use Rattle.tokei_table.specs.Lookups.{first_where, or_else, has_name_in_any_case, has_extension}
use Rattle.tokei_json_tree.specs.Bytes.{data_of_bytes}
use Rattle.tokei_table.specs.Row.{Row}
use Rattle.tokei_notebook.specs.Layout.{is_markdown, has_notebook_layout}
use Rattle.tokei_notebook.specs.declared.notebook.Cell.{Cell as CodeCell}

-- a cell: the language that it is read in, and its text
pub record Cell : Type 0 where
  pub language : ℕ
  pub source : List ℕ

-- a cell of the code: its language, and the bytes of its text
abbrev pub cell_of : CodeCell → Cell
cell_of cell = record { language = cell.language; source = cell.source.items }

-- the language that the kernel names: its name is the text in any ASCII case; other values name
-- none
abbrev pub by_kernel : List Row → Option Data → Option ℕ
by_kernel rows (Some (string t)) = first_where (has_name_in_any_case t) rows
by_kernel rows found = None

-- the language with the text as an extension; other values have none
abbrev pub by_extension : List Row → Option Data → Option ℕ
by_extension rows (Some (string t)) = first_where (has_extension t) rows
by_extension rows found = None

-- the member of a member
abbrev pub get_in : List ℕ → List ℕ → Data → Option Data
get_in outer inner value = option_and_then (get inner) (get outer value)

-- The language of code cells, by the metadata: the kernel's, else by the extension, else Python.
unfoldable pub code_language : List Row → ℕ → Option Data → ℕ
code_language rows notebook None = fallback rows notebook (codes "Python")
code_language rows notebook (Some d) =
    unwrap_or (or_else
    (by_kernel rows (get_in (codes "kernelspec") (codes "language") d))
    (by_extension rows (get_in (codes "language_info") (codes "file_extension") d)))
    (fallback rows notebook (codes "Python"))

-- a text's bytes; other values have none
abbrev pub text_of : Data → List ℕ
text_of (string t) = t
text_of value = []

-- the texts of a list, joined
abbrev pub joined : Items → List ℕ
joined no_items = []
joined (item d ds) = text_of d ++ joined ds

-- a cell's text
abbrev pub source_of : Option Data → List ℕ
source_of (Some (array ds)) = joined ds
source_of found = []

-- Markdown cells are read in the one language, code cells in the other
abbrev pub cells_in : ℕ → ℕ → Items → List Cell
cells_in markdown code no_items = []
cells_in markdown code (item d ds) =
    record {
      language = if stands_and is_markdown (get (codes "cell_type") d) then markdown else code;
      source = source_of (get (codes "source") d);
    } ∷ cells_in markdown code ds

-- the cells of the member `cells`; where that is no list there are none
abbrev pub cells_at : ℕ → ℕ → Option Data → List Cell
cells_at markdown code (Some (array ds)) = cells_in markdown code ds
cells_at markdown code found = []

-- the cells of a JSON value; one without the layout of a notebook has none
unfoldable pub cells_of : List Row → ℕ → Option Data → List Cell
cells_of rows notebook None = []
cells_of rows notebook (Some d) =
    if has_notebook_layout d then cells_at
    (fallback rows notebook (codes "Markdown"))
    (code_language rows notebook (get (codes "metadata") d))
    (get (codes "cells") d)
    else []

-- The cells of a text in the language of notebooks; a text that isn't a notebook has none.
abbrev pub notebook_cells : List Row → ℕ → List ℕ → List Cell
notebook_cells rows notebook text = cells_of rows notebook (data_of_bytes text)

-- each cell's language is below the limit
abbrev pub AreKnown : ℕ → List Cell → Type 0
AreKnown limit [] = ⊤
AreKnown limit (c ∷ cs) = (c.language < limit) × AreKnown limit cs
