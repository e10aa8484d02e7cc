-- A number has no escapes, also where its text can't be read.
use Rattle.std.proofs.Common.{◌≡◌, true, Option, Some, None, refl}
use Rattle.serde_json.specs.Data.{Num}
use Rattle.tokei_json_tree.specs.TreeData.{number_data}
use Rattle.tokei_table_json.specs.Escaped.{has_escaped_tokens, has_escaped_finders, has_escaped_traits, is_escaped_language}

pub number_is_escaped : (n : Option Num) → is_escaped_language (number_data n) ≡ true
unfolding has_escaped_tokens has_escaped_finders has_escaped_traits
number_is_escaped None = refl
number_is_escaped (Some n) = refl
