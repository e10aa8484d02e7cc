-- A document is read back, as a value and as a text.
use Rattle.std.proofs.Common.{◌≡◌, ◌≢◌, ℕ, List, Bool, true, false, refl, Result, Ok, Err, Some, IfOk, IfErr, not, if◌then◌else◌, sym, ap, ◌∙◌, length}
use Rattle.serde_json.specs.Read.{read}
use Rattle.serde_json.specs.Written.{compact_text}
use Rattle.tokei_languages.specs.Values.{LanguageValue}
use Rattle.tokei_table.specs.Row.{Row}
use Rattle.tokei_table.specs.WellFormed.{IsWellFormed}
use Rattle.tokei_json.specs.Document.{document}
use Rattle.tokei_json_laws.specs.InOrder.{LanguagesAreInOrder}
use Rattle.tokei_json_laws.specs.Known.{LanguagesAreKnown}
use Rattle.tokei_json.specs.LanguageMaps.{all_known, all_once}
use Rattle.tokei_json.specs.Layout.{has_layout}
use Rattle.tokei_earlier.specs.Outcome.{outcome_of_value, outcome_of_reading, outcome_of_text}
use Rattle.tokei_earlier.specs.Reading.{languages_in}
use Rattle.tokei_earlier.specs.declared.error.InputError.{InputError}
use Rattle.tokei_earlier.specs.declared.error.InputError.TheVariants.{Layout, UnknownLanguage, NamedTwice}
use Rattle.tokei_json.proofs.Names.{total_unnamed}
use Rattle.tokei_json_laws.proofs.ReadBackValues.{document_back}
use Rattle.tokei_json_laws.proofs.Sound.{LanguagesAreSound, sound_languages}
use Rattle.tokei_json_laws.proofs.SoundLayout.{document_stands}
use Rattle.tokei_json_laws.proofs.SoundNames.{document_known, document_once}

chosen : (a b c : Bool) (r : Result (List (ℕ × LanguageValue)) InputError) → a ≡ true → b ≡ true → c ≡ true
    → (if not a then Err Layout else (if not b then Err UnknownLanguage else (if not c then Err NamedTwice else r))) ≡ r
chosen true true true r h k l = refl
chosen false b c r h k l = cc
chosen true false c r h k l = cc
chosen true true false r h k l = cc

-- the law
pub value_back : (rows : List Row) (es : List (ℕ × LanguageValue)) → IsWellFormed rows → LanguagesAreKnown (length rows) es → LanguagesAreInOrder es
    → outcome_of_value rows (document rows es) ≡ Ok es
unfolding outcome_of_value
value_back rows es well known ordered =
    let sound : LanguagesAreSound (length rows) es = sound_languages (length rows) es known ordered.values in
    chosen (has_layout (document rows es)) (all_known rows (document rows es)) (all_once rows (document rows es)) (Ok (languages_in rows (document rows es)))
    (document_stands rows es) (document_known rows well.named_once well.no_total es sound) (document_once rows well.named_once well.no_total es sound)
    ∙ ap Ok (document_back rows well.named_once es sound ordered.languages (total_unnamed rows well.no_total))

-- the law of texts, where the text is read as its document
pub text_back : (rows : List Row) (es : List (ℕ × LanguageValue)) (text : List ℕ) → text ≡ compact_text (document rows es) → read text ≡ Some (document rows es)
    → outcome_of_value rows (document rows es) ≡ Ok es → outcome_of_text rows text ≡ Ok es
unfolding document
text_back rows es text is r law =
    ap (outcome_of_text rows) is ∙ ap (outcome_of_reading rows) (ap read (sym is) ∙ r) ∙ law

ok_injective : {A E : Type 0} (x y : A) (o : Result A E) → o ≡ Ok x → o ≡ Ok y → x ≡ y
ok_injective x y o h k = cc

-- what is answered of an outcome that is accepted
pub answered : {A : Type 0} (seen : A → List (ℕ × LanguageValue)) (r : Result A InputError) (o : Result (List (ℕ × LanguageValue)) InputError) (es : List (ℕ × LanguageValue))
    → o ≡ Ok es → IfOk r (λ x. o ≡ Ok (seen x)) → IfOk r (λ x. seen x ≡ es)
answered seen (Ok x) o es h k = ok_injective (seen x) es o k h
answered seen (Err e) o es h k = k

pub never_refused : {A : Type 0} (M V : InputError) (r : Result A InputError) (o : Result (List (ℕ × LanguageValue)) InputError) (es : List (ℕ × LanguageValue))
    → o ≡ Ok es → IfErr r (λ e. (e ≢ M) → o ≡ Err e) → IfErr r (λ e. (e ≢ M) → e ≡ V)
never_refused M V (Ok x) o es h k = k
never_refused M V (Err e) o es h k = λ other. let both : Ok es ≡ Err e = sym h ∙ k other in cc
