-- The nearest folder that decides, found from the nearest one on.
use Rattle.std.proofs.Common.{◌≡◌, ℕ, suc, List, [], ◌∷◌, ◌++◌, length, drop, Bool, Option, Some, None, refl, sym, ap, ◌∙◌, arith}
use Rattle.std.proofs.lemmas.List.{nil_from_length, drop_all}
use Rattle.tokei_folders.specs.Ends.{without_first}
use Rattle.tokei_folders.specs.Tree.{Names}
use Rattle.tokei_ignore.specs.IgnoreFiles.{last_fitting, or_else}
use Rattle.tokei_ignore.specs.declared.ignore_files.Verdict.{Verdict}
use Rattle.tokei_walk.specs.declared.levels.Level.{Level}
use Rattle.tokei_walk.specs.declared.levels.IgnoreKind.{IgnoreKind}
use Rattle.tokei_walk.specs.Levels.{decision, patterns_from}

drop_first : (n : ℕ) (names : Names) → drop n (without_first names) ≡ drop (suc n) names
drop_first n [] = drop_all n [] (omega arith) ∙ sym (drop_all (suc n) [] (omega arith))
drop_first n (m ∷ ms) = refl

-- the last folder decides before those above it
pub decision-push : (source : IgnoreKind) (ls : List Level) (l : Level) (names : Names) (is_folder : Bool) (found : Option Verdict)
    → decision source (ls ++ l ∷ []) names is_folder found ≡ or_else (last_fitting (patterns_from source l) (drop (length ls) names) is_folder) (decision source ls names is_folder found)
decision-push source [] l names is_folder found = refl
decision-push source (k ∷ ls) l names is_folder found =
    let rest = or_else (last_fitting (patterns_from source k) names is_folder) found in
    decision-push source ls l (without_first names) is_folder rest
    ∙ ap (λ (ns : Names). or_else (last_fitting (patterns_from source l) ns is_folder) (decision source ls (without_first names) is_folder rest)) (drop_first (length ls) names)

-- where it decides, those above it don't matter
pub nearest_decides : (source : IgnoreKind) (whole ls : List Level) (l : Level) (names below : Names) (is_folder : Bool) (v : Verdict) → whole ≡ ls ++ l ∷ [] → below ≡ drop (length ls) names
    → Some v ≡ last_fitting (patterns_from source l) below is_folder → Some v ≡ decision source whole names is_folder None
nearest_decides source whole ls l names below is_folder v is at e =
    ap (λ (o : Option Verdict). or_else o (decision source ls names is_folder None))
    (e ∙ ap (λ (ns : Names). last_fitting (patterns_from source l) ns is_folder) at)
    ∙ sym (ap (λ (w : List Level). decision source w names is_folder None) is
    ∙ decision-push source ls l names is_folder None)

-- where it doesn't, those above it decide
pub nearest_passes : (source : IgnoreKind) (whole ls : List Level) (l : Level) (names below : Names) (is_folder : Bool) → whole ≡ ls ++ l ∷ [] → below ≡ drop (length ls) names
    → None ≡ last_fitting (patterns_from source l) below is_folder → decision source ls names is_folder None ≡ decision source whole names is_folder None
nearest_passes source whole ls l names below is_folder is at e =
    ap (λ (o : Option Verdict). or_else o (decision source ls names is_folder None))
    (e ∙ ap (λ (ns : Names). last_fitting (patterns_from source l) ns is_folder) at)
    ∙ sym (ap (λ (w : List Level). decision source w names is_folder None) is
    ∙ decision-push source ls l names is_folder None)

-- no folder decides nothing
pub none_decides : (source : IgnoreKind) (ls : List Level) (names : Names) (is_folder : Bool) → length ls ≡ 0 → None ≡ decision source ls names is_folder None
none_decides source ls names is_folder e = ap (λ (w : List Level). decision source w names is_folder None) (sym (nil_from_length ls e))
