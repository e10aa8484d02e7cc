-- The layout of a notebook: which JSON values are one.
use Rattle.std.specs.Prelude.{Bool, false, ◌&&◌, ◌||◌, is_some, codes, bytes_eq}
use Rattle.serde_json.specs.Data.{Data, string}
use Rattle.serde_json.specs.Find.{get}
use Rattle.tokei_json_tree.specs.Shapes.{stands_and, is_text, is_list}

-- The text of a Markdown cell's kind.
abbrev pub is_markdown : Data → Bool
is_markdown (string t) = bytes_eq t (codes "markdown")
is_markdown value = false

-- The text of a code cell's kind.
abbrev pub is_code : Data → Bool
is_code (string t) = bytes_eq t (codes "code")
is_code value = false

-- A cell has a kind, which is one of the two, and a source, which is a list of texts.
unfoldable pub is_cell : Data → Bool
is_cell value =
    stands_and (λ k. is_markdown k || is_code k) (get (codes "cell_type") value)
    && stands_and (is_list is_text) (get (codes "source") value)

-- The metadata tell the kernel and the language, each by any value.
abbrev pub has_metadata : Data → Bool
has_metadata value = is_some (get (codes "kernelspec") value) && is_some
    (get (codes "language_info") value)

-- A notebook has cells and metadata; other members are passed over.
unfoldable pub has_notebook_layout : Data → Bool
has_notebook_layout value =
    stands_and (is_list is_cell) (get (codes "cells") value)
    && stands_and has_metadata (get (codes "metadata") value)
