-- The texts that name a cause.
use Rattle.std.proofs.Common.{◌≡◌, ◌≢◌, ◌⊎◌, ℕ, List, [], ◌∷◌, ◌++◌, Option, Result, Ok, Err, OnOk, String, inl, inr, refl, sym, subst, ap, codes, append_assoc}
use Rattle.std.specs.Global.{Global}
use Rattle.std.specs.Io.KnownBytes.{Appends}
use Rattle.tokei_cli.specs.Printing.{failure_text}
use Rattle.tokei_invocation.specs.declared.saying.TheConstants.{NO_MEMORY}
use Rattle.tokei_invocation.specs.declared.ending.Ending.{Ending}
use Rattle.tokei_invocation.specs.declared.ending.Ending.TheVariants.{Refused, Input, Memory}
use Rattle.tokei_invocation.specs.Messages.{IsMessage, Says, SaysOf, line_of, message_of}

pub refused_input_is_message : (name : List ℕ) → IsMessage (failure_text name)
refused_input_is_message name = record {
  cause = 10 ∷ (codes " Failed to parse input file: " ++ name);
  is = ap (λ r. codes "Error:" ++ (10 ∷ r)) (sym (append_assoc (codes " Failed to parse input file: ") name (10 ∷ [])));
}

pub no_memory_is_message : IsMessage NO_MEMORY.now
no_memory_is_message = record { cause = codes " out of memory"; is = refl }

-- a message that was put is said
pub said : (old new : Option (List ℕ)) (text : List ℕ) → IsMessage text → Appends old new text → Says old new
said old new text message appended = record { text = text; message = message; appended = appended }

pub no_memory_said : (old new : Option (List ℕ)) → Appends old new NO_MEMORY.now → Says old new
no_memory_said old new appended = said old new NO_MEMORY.now no_memory_is_message appended

pub refused_input_said : (old new : Option (List ℕ)) (name : List ℕ) → Appends old new (failure_text name) → Says old new
refused_input_said old new name appended = said old new (failure_text name) (refused_input_is_message name) appended

module _ {A E : Type 0} (r : Result A E) (old new : Option (List ℕ)) where
  -- what was put where there is no memory for other words
  pub no_memory_of : (X : Type 0) → OnOk r (Appends old new NO_MEMORY.now) → OnOk r (X ⊎ SaysOf Memory old new)
  no_memory_of X = of r
    where
      of : (r : Result A E) → OnOk r (Appends old new NO_MEMORY.now) → OnOk r (X ⊎ SaysOf Memory old new)
      of (Ok a) h = inr h
      of (Err e) h = tt

  -- what was put is what is said of the ending
  pub said_of : (ending : Ending) (text : List ℕ) → text ≡ message_of ending → OnOk r (Appends old new text) → OnOk r (SaysOf ending old new ⊎ SaysOf Memory old new)
  said_of ending text is = of r
    where
      of : (r : Result A E) → OnOk r (Appends old new text) → OnOk r (SaysOf ending old new ⊎ SaysOf Memory old new)
      of (Ok a) h = inl (subst (λ t. Appends old new t) is h)
      of (Err e) h = tt

-- a line is said of any ending but a refused command line and refused earlier results
pub line_is_said : (ending : Ending) → ((text : String Global) → ending ≢ Refused text) → ((name : String Global) → ending ≢ Input name) → line_of ending ≡ message_of ending
line_is_said (Refused text) unrefused untaken = absurd (unrefused text refl)
line_is_said (Input name) unrefused untaken = absurd (untaken name refl)
line_is_said ending unrefused untaken = refl
