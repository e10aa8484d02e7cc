-- A truth value, as data.
use Rattle.std.proofs.Common.{◌≡◌, Bool as Truth, rules}
use Rattle.serde_json.specs.Data.{boolean}
use Rattle.serde_json.specs.View.{view}
use Rattle.serde_json.specs.declared.value.Value.{Bool, the_lemmas}

pub view-Bool : (b : Truth) → view (Bool b) ≡ boolean b
view-Bool b = search (rules, the_lemmas)
