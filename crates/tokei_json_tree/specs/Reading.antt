-- A text that was read as a tree.
use Rattle.std.specs.Prelude.{◌≡◌, ℕ, List, Some}
use Rattle.json.specs.Json as json
use Rattle.serde_json.specs.Read.{read}
use Rattle.tokei_json_tree.specs.Ordered.{IsOrdered}
use Rattle.tokei_json_tree.specs.TreeData.{data_of}

-- The tree stands for what the text reads as, and its objects have their keys in order.
pub record IsReadingOf (text : List ℕ) (j : json.Json) : Type 0 where
  pub reads : read text ≡ Some (data_of j)
  pub ordered : IsOrdered j
