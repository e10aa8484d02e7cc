-- What the last pattern of a list decides.
use Rattle.std.proofs.Common.{◌≡◌, ℕ, List, [], ◌∷◌, ◌++◌, Bool, true, false, cond, Option, Some, None, Err, refl, ap}
use Rattle.std.proofs.lemmas.Str.{is_utf8-from_IsUtf8, IsUtf8-from_is_utf8}
use Rattle.std.specs.Str.{chars, is_utf8, IsUtf8}
use Rattle.tokei_ignore.specs.declared.pieces.Segment.{Segment}
use Rattle.tokei_ignore.specs.declared.patterns.PatternError.TheVariants.{Bad}
use Rattle.tokei_ignore.specs.declared.patterns.Pattern.{Pattern}
use Rattle.tokei_ignore.specs.declared.ignore_files.Verdict.{Verdict}
use Rattle.tokei_ignore.specs.IgnoreFiles.{last_fitting, or_else, outcome_of_line, verdict_of}
use Rattle.tokei_ignore.specs.Patterns.{fits_entry, ends_in_names, line_pattern}
use Rattle.tokei_ignore.specs.Segments.{spans_names}

pub ends_in_names-push : (ss : List Segment) (s : Segment) → ends_in_names (ss ++ s ∷ []) ≡ spans_names s
ends_in_names-push [] s = refl
ends_in_names-push (t ∷ []) s = refl
ends_in_names-push (t ∷ u ∷ ss) s = ends_in_names-push (u ∷ ss) s

abbrev own : Pattern → List (List ℕ) → Bool → Option Verdict
own p names folder = cond (fits_entry p names folder) (Some (verdict_of p)) None

or_else_some : (o : Option Verdict) (v : Verdict) (q : Option Verdict) → o ≡ Some v → or_else o q ≡ Some v
or_else_some o v q e = ap (λ r. or_else r q) e

pub decided : (ps : List Pattern) (p : Pattern) (names : List (List ℕ)) (folder : Bool) → fits_entry p names folder ≡ true → last_fitting (ps ++ p ∷ []) names folder ≡ Some (verdict_of p)
unfolding last_fitting
decided [] p names folder e = ap (λ b. cond b (Some (verdict_of p)) None) e
decided (q ∷ ps) p names folder e = or_else_some (last_fitting (ps ++ p ∷ []) names folder) (verdict_of p) (own q names folder) (decided ps p names folder e)

pub passed : (ps : List Pattern) (p : Pattern) (names : List (List ℕ)) (folder : Bool) → fits_entry p names folder ≡ false → last_fitting (ps ++ p ∷ []) names folder ≡ last_fitting ps names folder
unfolding last_fitting
passed [] p names folder e = ap (λ b. cond b (Some (verdict_of p)) None) e
passed (q ∷ ps) p names folder e = ap (λ o. or_else o (own q names folder)) (passed ps p names folder e)

pub none_decides : (names : List (List ℕ)) (folder : Bool) → last_fitting [] names folder ≡ None
unfolding last_fitting
none_decides names folder = refl

-- a line of text is read as a pattern, and another line is bad
pub outcome_of_text : (line : List ℕ) → IsUtf8 line → outcome_of_line line ≡ line_pattern (chars line)
unfolding outcome_of_line
outcome_of_text line u = ap (λ b. cond b (line_pattern (chars line)) (Err Bad)) (is_utf8-from_IsUtf8 line u)

not_utf8 : (line : List ℕ) → (IsUtf8 line → ⊥) → (b : Bool) → is_utf8 line ≡ b → b ≡ false
not_utf8 line n true e = absurd (n (IsUtf8-from_is_utf8 line e))
not_utf8 line n false e = refl

pub outcome_of_other : (line : List ℕ) → (IsUtf8 line → ⊥) → outcome_of_line line ≡ Err Bad
unfolding outcome_of_line
outcome_of_other line n = ap (λ b. cond b (line_pattern (chars line)) (Err Bad)) (not_utf8 line n (is_utf8 line) refl)
