-- What becomes of a text, by its reading.
use Rattle.std.proofs.Common.{◌≡◌, ℕ, ◌<◌, ◌≤◌, Bool, true, false, not, ◌&&◌, List, [], ◌∷◌, length, None, Err, if◌then◌else◌, arith, refl, ap, ◌∙◌}
use Rattle.json.specs.Json as json
use Rattle.serde_json.specs.Data.{Data}
use Rattle.serde_json.specs.Read.{read}
use Rattle.serde_json.specs.Written.{has_float}
use Rattle.tokei_earlier.specs.Outcome.{outcome_of_reading, outcome_of_text, outcome_of_value}
use Rattle.tokei_earlier.specs.declared.error.InputError.TheVariants.{Empty, Layout, NotJson}
use Rattle.tokei_json.specs.Layout.{has_layout, is_document}
use Rattle.tokei_json_tree.specs.Reading.{IsReadingOf}
use Rattle.tokei_json_tree.specs.TreeData.{data_of}
use Rattle.tokei_table.specs.Row.{Row}

pub empty_refused : (rows : List Row) (text : List ℕ) → length text < 1 → outcome_of_text rows text ≡ Err Empty
empty_refused rows [] none = refl
empty_refused rows (c ∷ cs) none = absurd (omega arith)

pub by_reading : (rows : List Row) (text : List ℕ) → 1 ≤ length text → outcome_of_text rows text ≡ outcome_of_reading rows (read text)
by_reading rows [] some = absurd (omega arith)
by_reading rows (c ∷ cs) some = refl

pub unread_refused : (rows : List Row) (text : List ℕ) → 1 ≤ length text → read text ≡ None → outcome_of_text rows text ≡ Err NotJson
unread_refused rows text some unread = by_reading rows text some ∙ ap (outcome_of_reading rows) unread

pub text_of_tree : (rows : List Row) (text : List ℕ) (j : json.Json) → 1 ≤ length text → IsReadingOf text j → outcome_of_text rows text ≡ outcome_of_value rows (data_of j)
text_of_tree rows text j some reading = by_reading rows text some ∙ ap (outcome_of_reading rows) reading.reads

refused_by : {A : Type 0} (float document : Bool) (x y : A) → float ≡ true → (if not (not float && document) then x else y) ≡ x
refused_by true document x y is = refl
refused_by false document x y is = cc

-- a number that isn't whole is in no document
pub float_refused : (rows : List Row) (value : Data) → has_float value ≡ true → outcome_of_value rows value ≡ Err Layout
unfolding outcome_of_value has_layout
float_refused rows value is = refused_by (has_float value) (is_document value) (Err Layout) _ is
