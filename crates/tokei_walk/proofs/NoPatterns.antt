-- Folders whose ignore files have no pattern decide nothing.
use Rattle.std.proofs.Common.{◌≡◌, List, [], ◌∷◌, Bool, true, false, Option, None, if◌then◌else◌, refl, sym, ap, ◌∙◌}
use Rattle.std.proofs.lemmas.Bool.{false≢true, or_parts}
use Rattle.std.specs.List.{list_any}
use Rattle.tokei_folders.specs.Ends.{without_first}
use Rattle.tokei_folders.specs.Tree.{Names}
use Rattle.tokei_ignore.specs.IgnoreFiles.{last_fitting, or_else}
use Rattle.tokei_ignore.specs.declared.ignore_files.Verdict.{Verdict}
use Rattle.tokei_ignore.specs.declared.patterns.Pattern.{Pattern}
use Rattle.tokei_walk.specs.declared.levels.Level.{Level}
use Rattle.tokei_walk.specs.declared.levels.IgnoreKind.{IgnoreKind}
use Rattle.tokei_walk.specs.declared.levels.IgnoreKind.TheVariants.{Tokeignore, Plain, Gitignore, GitExclude}
use Rattle.tokei_walk.specs.Levels.{decided, decision, has_patterns, has_some, in_repository, patterns_from, repository}

none_of : (ps : List Pattern) (names : Names) (is_folder : Bool) → has_some ps ≡ false → last_fitting ps names is_folder ≡ None
unfolding last_fitting
none_of [] names is_folder e = refl
none_of (p ∷ ps) names is_folder e = absurd (false≢true (sym e))

none_at : (source : IgnoreKind) (l : Level) (names : Names) (is_folder : Bool) → has_patterns l ≡ false → last_fitting (patterns_from source l) names is_folder ≡ None
none_at source l names is_folder e =
    let first = or_parts (has_some l.tokeignore) _ e in
    let second = or_parts (has_some l.ignore) _ first.1 in
    let third = or_parts (has_some l.gitignore) _ second.1 in
    elim source as (λ (s : IgnoreKind). last_fitting (patterns_from s l) names is_folder ≡ None) [
      | Tokeignore ↦ none_of l.tokeignore names is_folder first.0
      | Plain ↦ none_of l.ignore names is_folder second.0
      | Gitignore ↦ none_of l.gitignore names is_folder third.0
      | GitExclude ↦ none_of l.git_exclude names is_folder third.1
    ]

kind_decides_none : (source : IgnoreKind) (ls : List Level) (names : Names) (is_folder : Bool) → list_any has_patterns ls ≡ false
    → decision source ls names is_folder None ≡ None
kind_decides_none source [] names is_folder e = refl
kind_decides_none source (l ∷ ls) names is_folder e =
    ap (λ (o : Option Verdict). decision source ls (without_first names) is_folder (or_else o None))
    (none_at source l names is_folder (or_parts (has_patterns l) _ e).0)
    ∙ kind_decides_none source ls (without_first names) is_folder (or_parts (has_patterns l) _ e).1

chosen : (b : Bool) (x y : List Level × Names) → list_any has_patterns x.0 ≡ false → list_any has_patterns y.0 ≡ false
    → list_any has_patterns (if b then x else y).0 ≡ false
chosen true x y p q = p
chosen false x y p q = q

inside : (ls : List Level) (names : Names) (found : List Level × Names) → list_any has_patterns ls ≡ false → list_any has_patterns found.0 ≡ false
    → list_any has_patterns (in_repository ls names found).0 ≡ false
inside [] names found e h = h
inside (l ∷ ls) names found e h =
    inside ls (without_first names) (if l.git then (l ∷ ls, names) else found) (or_parts (has_patterns l) _ e).1
    (chosen l.git (l ∷ ls, names) found e h)

-- nothing is decided where no folder has a pattern
pub nothing_decided : (ls : List Level) (names : Names) (is_folder : Bool) → list_any has_patterns ls ≡ false → None ≡ decided ls names is_folder
unfolding decided
nothing_decided ls names is_folder e =
    let within = inside ls names ([], []) e refl in
    let inner = (repository ls names).0 in
    let below = (repository ls names).1 in
    let of_git = or_else (decision Gitignore inner below is_folder None) (decision GitExclude inner below is_folder None) in
    sym (ap (λ (o : Option Verdict). or_else o (or_else (decision Plain ls names is_folder None) of_git))
    (kind_decides_none Tokeignore ls names is_folder e)
    ∙ ap (λ (o : Option Verdict). or_else o of_git) (kind_decides_none Plain ls names is_folder e)
    ∙ ap (λ (o : Option Verdict). or_else o (decision GitExclude inner below is_folder None)) (kind_decides_none Gitignore inner below is_folder within)
    ∙ kind_decides_none GitExclude inner below is_folder within)
