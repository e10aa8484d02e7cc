-- The last pattern that fits, by its place.
use Rattle.std.proofs.Common.{◌≡◌, ◌≤◌, length, ℕ, zero, suc, List, [], ◌∷◌, get_or, Bool, true, false, cond, Option, Some, None, refl, sym, ap, ◌∙◌, arith}
use Rattle.tokei_ignore.specs.declared.patterns.Pattern.{Pattern}
use Rattle.tokei_ignore.specs.declared.ignore_files.Verdict.{Verdict}
use Rattle.tokei_ignore.specs.IgnoreFiles.{last_fitting, or_else, verdict_of}
use Rattle.tokei_ignore.specs.Patterns.{fits_entry}
use Rattle.tokei_ignore.specs.Index.{behind, last_place, latest_fitting}
use Rattle.tokei_ignore.proofs.Places.{place_le}

none_step : (b : Bool) (n : ℕ) (o : Option Verdict) (v : Verdict) → (n ≡ 0 → o ≡ None) → behind b n ≡ 0 → or_else o (cond b (Some v) None) ≡ None
none_step true zero o v ih e = absurd (omega (arith, e))
none_step false zero o v ih e = ap (λ (q : Option Verdict). or_else q None) (ih refl)
none_step b (suc n) o v ih e = absurd (omega (arith, e))

pub none_fitting : (ps : List Pattern) (names : List (List ℕ)) (folder : Bool) → latest_fitting ps names folder ≡ 0 → last_fitting ps names folder ≡ None
unfolding last_fitting latest_fitting
none_fitting [] names folder e = refl
none_fitting (q ∷ ps) names folder e =
    none_step (fits_entry q names folder) (last_place (λ x. fits_entry x names folder) ps) (last_fitting ps names folder) (verdict_of q) (none_fitting ps names folder) e

some_step : (ps : List Pattern) (q p : Pattern) (k : ℕ) (b : Bool) (n : ℕ) (o : Option Verdict) → (n ≡ 0 → o ≡ None)
    → ((j : ℕ) → n ≡ suc j → p ≡ get_or ps j p → o ≡ Some (verdict_of p))
    → behind b n ≡ suc k → p ≡ get_or (q ∷ ps) k p → or_else o (cond b (Some (verdict_of q)) None) ≡ Some (verdict_of p)
some_step ps q p zero true zero o none some e is =
    ap (λ (r : Option Verdict). or_else r (Some (verdict_of q))) (none refl) ∙ ap (λ (x : Pattern). Some (verdict_of x)) (sym is)
some_step ps q p (suc k) true zero o none some e is = absurd (omega (arith, e))
some_step ps q p k false zero o none some e is = absurd (omega (arith, e))
some_step ps q p zero b (suc n) o none some e is = absurd (omega (arith, e))
some_step ps q p (suc k) b (suc n) o none some e is =
    let f : suc n ≡ suc k = omega (arith, e) in
    ap (λ (r : Option Verdict). or_else r (cond b (Some (verdict_of q)) None)) (some k f is)

pub some_fitting : (ps : List Pattern) (names : List (List ℕ)) (folder : Bool) (k : ℕ) (p : Pattern)
    → latest_fitting ps names folder ≡ suc k → p ≡ get_or ps k p → last_fitting ps names folder ≡ Some (verdict_of p)
unfolding last_fitting latest_fitting
some_fitting [] names folder k p e is = absurd (omega (arith, e))
some_fitting (q ∷ ps) names folder k p e is =
    some_step ps q p k (fits_entry q names folder) (last_place (λ x. fits_entry x names folder) ps) (last_fitting ps names folder)
    (none_fitting ps names folder) (λ j f g. some_fitting ps names folder j p f g) e is

pub latest_within : (ps : List Pattern) (names : List (List ℕ)) (folder : Bool) → latest_fitting ps names folder ≤ length ps
unfolding latest_fitting
latest_within ps names folder = place_le (λ x. fits_entry x names folder) ps
