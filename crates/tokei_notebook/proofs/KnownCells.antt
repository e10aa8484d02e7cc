-- The cells of a notebook have languages of the table alone.
use Rattle.std.proofs.Common.{ℕ, suc, ◌<◌, Bool, true, false, cond, List, [], ◌∷◌, length, Option, None, Some, option_map, unwrap_or, codes, arith}
use Rattle.std.specs.Prelude.{⊤}
use Rattle.serde_json.specs.Data.{Data, string}
use Rattle.serde_json.specs.Find.{get}
use Rattle.tokei_table.specs.Families.{fallback}
use Rattle.tokei_table.specs.Lookups.{first_where, or_else, has_extension, has_name, has_name_in_any_case}
use Rattle.tokei_json_tree.specs.Bytes.{data_of_bytes}
use Rattle.tokei_table.specs.Row.{Row}
use Rattle.tokei_notebook.specs.Cells.{AreKnown, by_extension, by_kernel, cells_at, cells_of, code_language, get_in, notebook_cells}
use Rattle.tokei_notebook.specs.Layout.{has_notebook_layout}
use Rattle.tokei_notebook.proofs.Known.{at_known}

-- what is there is below m
abbrev IsBelow : ℕ → Option ℕ → Type 0
IsBelow m None = ⊤
IsBelow m (Some n) = n < m

where_below : (test : Row → Bool) (rows : List Row) → IsBelow (length rows) (first_where test rows)
where_below test [] = tt
where_below test (r ∷ rows) = by_test (test r) (first_where test rows) (where_below test rows)
  where
    by_test : (b : Bool) (o : Option ℕ) → IsBelow (length rows) o → IsBelow (suc (length rows)) (cond b (Some 0) (option_map suc o))
    by_test true o h = omega arith
    by_test false None h = tt
    by_test false (Some n) h = omega arith

unwrap_below : (m : ℕ) (o : Option ℕ) (n : ℕ) → IsBelow m o → n < m → unwrap_or o n < m
unwrap_below m None n h k = k
unwrap_below m (Some a) n h k = h

either_below : (m : ℕ) (o p : Option ℕ) → IsBelow m o → IsBelow m p → IsBelow m (or_else o p)
either_below m None p h k = k
either_below m (Some n) p h k = h

kernel_below : (rows : List Row) (d : Option Data) → IsBelow (length rows) (by_kernel rows d)
kernel_below rows (Some (string t)) = where_below (has_name_in_any_case t) rows
kernel_below rows d = tt

extension_below : (rows : List Row) (d : Option Data) → IsBelow (length rows) (by_extension rows d)
extension_below rows (Some (string t)) = where_below (has_extension t) rows
extension_below rows d = tt

module _ (rows : List Row) (notebook : ℕ) (known : notebook < length rows) where
  fallback_below : (key : List ℕ) → fallback rows notebook key < length rows
  fallback_below key = unwrap_below (length rows) (first_where (has_name key) rows) notebook (where_below (has_name key) rows) known

  code_below : (d : Option Data) → code_language rows notebook d < length rows
  unfolding code_language
  code_below None = fallback_below (codes "Python")
  code_below (Some d) =
      let kernel : Option ℕ = by_kernel rows (get_in (codes "kernelspec") (codes "language") d) in
      let extension : Option ℕ = by_extension rows (get_in (codes "language_info") (codes "file_extension") d) in
      unwrap_below (length rows) (or_else kernel extension) (fallback rows notebook (codes "Python"))
      (either_below (length rows) kernel extension (kernel_below rows (get_in (codes "kernelspec") (codes "language") d))
      (extension_below rows (get_in (codes "language_info") (codes "file_extension") d)))
      (fallback_below (codes "Python"))

  of_known : (o : Option Data) → AreKnown (length rows) (cells_of rows notebook o)
  unfolding cells_of
  of_known None = tt
  of_known (Some d) = by_test (has_notebook_layout d)
    where
      markdown : ℕ
      markdown = fallback rows notebook (codes "Markdown")

      code : ℕ
      code = code_language rows notebook (get (codes "metadata") d)

      by_test : (x : Bool) → AreKnown (length rows) (cond x (cells_at markdown code (get (codes "cells") d)) [])
      by_test true = at_known (length rows) markdown code (get (codes "cells") d) (fallback_below (codes "Markdown")) (code_below (get (codes "metadata") d))
      by_test false = tt

  pub notebook_known : (t : List ℕ) → AreKnown (length rows) (notebook_cells rows notebook t)
  notebook_known t = of_known (data_of_bytes t)
