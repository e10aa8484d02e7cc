-- What stands next among the tokens of a text, where it is read without a tree.
use Rattle.std.specs.Prelude.{◌≡◌, ℕ, Bool, true, List, Some, codes, length}
use Rattle.json.specs.Json as json
use Rattle.json.specs.Token.{Token}
use Rattle.serde_json.specs.Data.{Data, Members}
use Rattle.serde_json.specs.Find.{get}
use Rattle.serde_json.specs.Read.{read as read_text}
use Rattle.tokei_json_tree.specs.Orderings.{IsOrderingOf, AreMembersOrderingOf}
use Rattle.tokei_json_tree.specs.TreeData.{data_of, members_data}
use Rattle.tokei_table_json.specs.Escaped.{is_escaped_table}
use Rattle.tokei_table.specs.KeyOrder.{IsInKeyOrder}
use Rattle.tokei_table_json.specs.Layout.{has_layout}
use Rattle.tokei_table_json.specs.MemberLayout.{all_members}
use Rattle.tokei_table_json.specs.Rows.{rows_at}
use Rattle.tokei_table_row.specs.Row.{Row}

-- The tokens begin with a value, nested no deeper than the number, that has the layout and but the
-- known escapes; its objects have their keys in order, its numbers are whole ones of 64 bits, and
-- it is read as that. The new tokens are those behind it.
pub record IsNext {X : Type 0} (layout escapes : Data → Bool) (read : Data → X) (depth : ℕ)
    (old new : List Token) (it : X) : Type 0 where
  pub value : json.Json
  pub is : json.value depth old ≡ Some (value, new)
  pub plain : IsOrderingOf value value
  pub fits : layout (data_of value) ≡ true
  pub escaped : escapes (data_of value) ≡ true
  pub made : read (data_of value) ≡ it

-- So they do with the members of an object and the brace that closes it.
pub record AreMembersNext {X : Type 0} (layout escapes : List ℕ → Data → Bool)
    (read : Members → X) (depth : ℕ) (old new : List Token) (it : X) : Type 0 where
  pub members : json.Members
  pub are : json.members (json.value depth) (length old) old ≡ Some (members, new)
  pub plain : AreMembersOrderingOf members members
  pub fit : all_members layout (members_data members) ≡ true
  pub escaped : all_members escapes (members_data members) ≡ true
  pub made : read (members_data members) ≡ it

-- A text that is a table with these rows, as far as its layout and its escapes tell.
pub record IsTableText (text : List ℕ) (rows : List Row) : Type 0 where
  pub value : Data
  pub reads : read_text text ≡ Some value
  pub layout : has_layout value ≡ true
  pub escaped : is_escaped_table (get (codes "languages") value) ≡ true
  pub made : rows ≡ rows_at (get (codes "languages") value)
  pub ordered : IsInKeyOrder rows
