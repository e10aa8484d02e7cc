-- A text's cells, where it has no JSON value, and where they are told by that of its bytes.
use Rattle.std.proofs.Common.{◌≡◌, ◌≢◌, ℕ, List, [], Result, Ok, Err, IfOk, None, refl, sym, ap, ◌∙◌}
use Rattle.std.specs.Str.{IsUtf8}
use Rattle.serde_json.specs.Read.{read}
use Rattle.tokei_json_tree.specs.declared.reading.ReadError.TheVariants.{Memory, NotJson}
use Rattle.tokei_notebook.specs.Cells.{cells_of, notebook_cells}
use Rattle.tokei_table.specs.Row.{Row}
use Rattle.tokei_json_tree.proofs.Utf8.{data_none, data_read}

-- what holds of an answer, where another thing does
pub if_ok : {A B : Type 0} {P Q : A → Type 0} (r : Result A B) → ((a : A) → P a → Q a) → IfOk r P → IfOk r Q
if_ok (Ok a) f h = f a h
if_ok (Err e) f h = h

pub not_memory : NotJson ≢ Memory
not_memory e = cc

module _ (rows : List Row) (notebook : ℕ) where
  pub none_without_value : [] ≡ cells_of rows notebook None
  unfolding cells_of
  none_without_value = refl

  pub none_without_text : (bytes : List ℕ) → (IsUtf8 bytes → ⊥) → [] ≡ notebook_cells rows notebook bytes
  none_without_text bytes un = none_without_value ∙ sym (ap (cells_of rows notebook) (data_none bytes un))

  pub cells_of_text : (bytes text : List ℕ) → (text ≡ bytes) × IsUtf8 bytes → cells_of rows notebook (read text) ≡ notebook_cells rows notebook bytes
  cells_of_text bytes text h = sym (ap (cells_of rows notebook) (data_read bytes (read text) h.1 (ap read (sym h.0))))
