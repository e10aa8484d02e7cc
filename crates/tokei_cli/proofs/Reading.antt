-- What the parser's getters answer, over the rows of what it found.
use Rattle.std.proofs.Common.{◌≡◌, ℕ, List, Bool, true, false, Option, None, Some, String, [], ◌∷◌, refl, sym, ap, ◌∙◌, codes, option_map, string_bytes}
use Rattle.std.specs.Prelude.{◌≢◌, IsSome, is_some, unwrap_or}
use Rattle.std.specs.Global.{Global}
use Rattle.std.specs.Bool.{Decides}
use Rattle.std.specs.Option.{option_or}
use Rattle.std.specs.Str.Parse.{ExplainsUnsignedError, HasUnsignedDigitsIfOk, ParsesBool, ParsesUnsigned}
use Rattle.std.specs.declared.num.ParseIntError.{ParseIntError}
use Rattle.std.specs.declared.str.ParseBoolError.{ParseBoolError}
use Rattle.std.proofs.lemmas.Slice.Eq.{bytes_eq-Decides}
use Rattle.clap.specs.Words.{ReadsOne, Row, all_of, first_of}
use Rattle.tokei_cli.specs.CommandLines.{inputs_of}
use Rattle.tokei_cli.specs.Lines.{IsLine, IsNumber, inputs_given, is_on}
use Rattle.tokei_cli.specs.declared.cli.Cli.{Cli}

-- what `usize` reads of a text
abbrev pub ReadsNumber : List ℕ → Option ℕ → Type 0
ReadsNumber = ReadsOne {T = ℕ} {E = ParseIntError}
    (λ bs r. ParsesUnsigned 64 10 bs r × ExplainsUnsignedError 10 bs r × HasUnsignedDigitsIfOk bs r)

pub number_is : (text : Option (List ℕ)) (r : Option ℕ) → (text ≡ None → r ≡ None)
    → ((t : List ℕ) → text ≡ Some t → ReadsNumber t r) → IsNumber text r
number_is None r none value = none refl
number_is (Some t) None none value = (value t refl).1.0
number_is (Some t) (Some n) none value = (value t refl).0

-- what `bool` reads of a text
abbrev pub ReadsBool : List ℕ → Option Bool → Type 0
ReadsBool = ReadsOne {T = Bool} {E = ParseBoolError} ParsesBool

off : (b : Bool) {P : Type 0} → Decides b P → ¬ P → false ≡ b
off true d h = absurd (h (d.0 refl))
off false d h = refl

pub on_is : (text : Option (List ℕ)) (r : Option Bool) → (text ≡ None → r ≡ None)
    → ((t : List ℕ) → text ≡ Some t → ReadsBool t r) → unwrap_or r false ≡ is_on text
on_is None r none value = ap (λ x. unwrap_or x false) (none refl)
on_is (Some t) None none value = off _ (bytes_eq-Decides (codes "true") t) (λ e. (value t refl).1.0 (sym e))
on_is (Some t) (Some true) none value = rw (value t refl) refl
on_is (Some t) (Some false) none value = rw (value t refl) refl

some_input : (given : Option (List (List ℕ))) → inputs_given given ≢ []
some_input None e = cc
some_input (Some []) e = cc
some_input (Some (text ∷ texts)) e = cc

-- a command line has an input
pub has_inputs : (rows : List Row) (line : Cli) → IsLine rows line → inputs_of line ≢ []
has_inputs rows line is e = some_input (all_of (codes "input") rows) (sym is.inputs ∙ e)

some_column : (reversed plain : Option (List ℕ)) (column : Option (String Global)) → is_some reversed ≡ true
    → option_map string_bytes column ≡ option_or reversed plain → IsSome column
some_column None plain column given e = cc
some_column (Some word) plain None given e = cc
some_column (Some word) plain (Some text) given e = refl

-- a reversed order has a column
pub has_column : (rows : List Row) (line : Cli) → IsLine rows line → line.sort_reverse ≡ true → IsSome line.sort
has_column rows line is reversed =
    some_column (first_of (codes "rsort") rows) (first_of (codes "sort") rows) line.sort
    (sym is.sort_reverse ∙ reversed) is.sort
