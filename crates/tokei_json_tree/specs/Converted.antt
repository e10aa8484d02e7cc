-- Trees of data.
use Rattle.std.specs.Prelude.{◌≡◌}
use Rattle.json.specs.Json as json
use Rattle.serde_json.specs.Data.{Data}
use Rattle.tokei_json_tree.specs.Ordered.{IsOrdered}
use Rattle.tokei_json_tree.specs.TreeData.{data_of}

-- The value stands for the data, and its objects have their keys in order.
pub record IsTreeOf (d : Data) (j : json.Json) : Type 0 where
  pub value : data_of j ≡ d
  pub ordered : IsOrdered j
