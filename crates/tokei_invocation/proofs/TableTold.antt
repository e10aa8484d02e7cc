-- What is told of a table that is refused.
use Rattle.std.proofs.Common.{◌≡◌, ℕ, List, ◌++◌, Result, Ok, Err, IfOk, String, codes, inr, refl, string_bytes}
use Rattle.std.specs.Global.{Global}
use Rattle.tokei_invocation.specs.Endings.{IsTableTold}
use Rattle.tokei_table_json.specs.Flaws.{rows_in, Tells}
use Rattle.tokei_table_json.specs.Outcome.{outcome}
use Rattle.tokei_table_json.specs.Sentences.{sentence_of}
use Rattle.tokei_table_json.specs.declared.flaw.TableFlaw.{TableFlaw}

-- a place and the sentence on a flaw that is there
pub flaw_told : {E : Type 0} (place bytes : List ℕ) (flaw : TableFlaw) (r : Result (String Global) E) → Tells (outcome bytes) (rows_in bytes) flaw
    → IfOk r (λ text. string_bytes text ≡ place ++ (codes ": " ++ sentence_of flaw)) → IfOk r (λ text. IsTableTold place bytes (string_bytes text))
flaw_told place bytes flaw (Ok text) is shown = record {
  words = sentence_of flaw;
  is = shown;
  why = inr (record { flaw = flaw; told = refl; is = is });
}
flaw_told place bytes flaw (Err e) is shown = tt
