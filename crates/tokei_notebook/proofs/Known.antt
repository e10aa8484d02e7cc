-- The language of a cell is one of the table.
use Rattle.std.proofs.Common.{ℕ, ◌<◌, Bool, true, false, cond, Option, Some, None, codes}
use Rattle.serde_json.specs.Data.{Data, null, boolean, number, string, array, object, Items, no_items, item}
use Rattle.serde_json.specs.Find.{get}
use Rattle.tokei_json_tree.specs.Shapes.{stands_and}
use Rattle.tokei_notebook.specs.Layout.{is_markdown}
use Rattle.tokei_notebook.specs.Cells.{cells_in, cells_at, AreKnown}

either_known : (n : ℕ) (b : Bool) (x y : ℕ) → x < n → y < n → cond b x y < n
either_known n true x y h k = h
either_known n false x y h k = k

pub cells_known : (n m c : ℕ) (ds : Items) → m < n → c < n → AreKnown n (cells_in m c ds)
cells_known n m c no_items h k = tt
cells_known n m c (item d ds) h k = (either_known n (stands_and is_markdown (get (codes "cell_type") d)) m c h k, cells_known n m c ds h k)

pub at_known : (n m c : ℕ) (o : Option Data) → m < n → c < n → AreKnown n (cells_at m c o)
at_known n m c None h k = tt
at_known n m c (Some null) h k = tt
at_known n m c (Some (boolean b)) h k = tt
at_known n m c (Some (number x)) h k = tt
at_known n m c (Some (string t)) h k = tt
at_known n m c (Some (array ds)) h k = cells_known n m c ds h k
at_known n m c (Some (object ms)) h k = tt
