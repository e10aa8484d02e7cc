-- A line comment that doesn't end in a blank stands at the head of a part exactly where it stands
-- behind the part's front blanks, and such a part is a comment.
use Rattle.std.proofs.Common.{◌≡◌, ℕ, zero, suc, ◌+◌, ◌-◌, ◌<◌, ◌≤◌, Bool, true, false, ◌&&◌, ◌||◌, not, cond, nat_eq, List, [], ◌∷◌, ◌++◌, None, Some, drop, take, refl, sym, ◌∙◌, ap, arith}
use Rattle.std.proofs.lemmas.Bool.Decides.{Decides-eqb}
use Rattle.std.proofs.lemmas.List.{drop-drop, drop-take}
use Rattle.std.specs.Cmp.Lexicographic.{pointwise}
use Rattle.std.specs.Str.{bytes_eq}
use Rattle.tokei_table.specs.Bytes.{begins, is_blank, all_blank, trim, trim_start, trim_end}
use Rattle.tokei_table.specs.Row.{Pair, Row}
use Rattle.tokei_parts.specs.Choice.{any_begins}
use Rattle.tokei_parts.specs.Class.{class_of, encloses, head_of, in_comment, in_doc_string, in_string, is_comment, keeps_columns, opens_with}
use Rattle.tokei_parts.specs.Derivation.{closer_of}
use Rattle.tokei_parts.specs.Items.{Mode}
use Rattle.tokei_parts.specs.declared.items.ItemKind.{ItemKind}
use Rattle.tokei_parts.specs.declared.items.ItemKind.TheVariants.{DocString, VerbatimString, OrdinaryString, MultiLineComment}
use Rattle.tokei_parts.specs.CommentHeads.{HasCommentHead, OpensComment, any_solid_begins, ends_solid, opens_solid}
use Rattle.tokei_parts.specs.declared.class.Class.TheVariants.{Comment}
use Rattle.tokei_parts.proofs.Fits.{and_left, and_right}

pub ends_solid-push : (front : List ℕ) (last : ℕ) → ends_solid (front ++ last ∷ []) ≡ not (is_blank last)
ends_solid-push [] last = refl
ends_solid-push (x ∷ []) last = refl
ends_solid-push (x ∷ y ∷ front) last = ends_solid-push (y ∷ front) last

is_false : (x : Bool) → not x ≡ true → x ≡ false
is_false true h = cc
is_false false h = refl

and_false : (x y : Bool) → y ≡ false → (x && y) ≡ false
and_false true y h = h
and_false false y h = refl

or_true : (x y : Bool) → y ≡ true → (x || y) ≡ true
or_true true y h = refl
or_true false y h = h

-- a text with such a token at its front isn't blank
not_blank : (p u : List ℕ) → ends_solid p ≡ true → begins p u ≡ true → all_blank u ≡ false
not_blank [] u s b = cc
not_blank (x ∷ p) [] s b = cc
not_blank (x ∷ []) (y ∷ u) s b =
    let same : x ≡ y = (Decides-eqb x y).0 (and_left (nat_eq x y) (pointwise nat_eq [] (take 0 u)) b) in
    ap (λ z. z && all_blank u) (ap is_blank (sym same) ∙ is_false (is_blank x) s)
not_blank (x ∷ x' ∷ p) (y ∷ u) s b =
    and_false (is_blank y) (all_blank u) (not_blank (x' ∷ p) u s (and_right (nat_eq x y) (begins (x' ∷ p) u) b))

-- the token stays where the blanks at the text's end go
keeps : (p u : List ℕ) → ends_solid p ≡ true → begins p u ≡ true → begins p (trim_end u) ≡ true
keeps [] u s b = cc
keeps (x ∷ p) [] s b = cc
keeps (x ∷ []) (y ∷ u) s b = ap (λ z. begins (x ∷ []) (cond z [] (y ∷ trim_end u))) (not_blank (x ∷ []) (y ∷ u) s b) ∙ b
keeps (x ∷ x' ∷ p) (y ∷ u) s b =
    ap (λ z. begins (x ∷ x' ∷ p) (cond z [] (y ∷ trim_end u))) (not_blank (x ∷ x' ∷ p) (y ∷ u) s b)
    ∙ ap (λ z. z && begins (x' ∷ p) (trim_end u)) (and_left (nat_eq x y) (begins (x' ∷ p) u) b)
    ∙ keeps (x' ∷ p) u s (and_right (nat_eq x y) (begins (x' ∷ p) u) b)

record Stands (ps : List (List ℕ)) (u : List ℕ) : Type 0 where
  whole : any_begins ps u ≡ true
  trimmed : any_begins ps (trim_end u) ≡ true
  solid : all_blank u ≡ false

stands : (ps : List (List ℕ)) (u : List ℕ) → any_solid_begins ps u ≡ true → Stands ps u
stands [] u h = cc
stands (p ∷ ps) u h = by_token (ends_solid p && begins p u) refl h (stands ps u)
  where
    by_token : (x : Bool) → (ends_solid p && begins p u) ≡ x → (x || any_solid_begins ps u) ≡ true → (any_solid_begins ps u ≡ true → Stands ps u) → Stands (p ∷ ps) u
    by_token true e h rest =
        let s : ends_solid p ≡ true = and_left (ends_solid p) (begins p u) e in
        let b : begins p u ≡ true = and_right (ends_solid p) (begins p u) e in
        record {
          whole = ap (λ z. z || any_begins ps u) b;
          trimmed = ap (λ z. z || any_begins ps (trim_end u)) (keeps p u s b);
          solid = not_blank p u s b;
        }
    by_token false e h rest =
        let found = rest h in
        record {
          whole = or_true (begins p u) (any_begins ps u) found.whole;
          trimmed = or_true (begins p (trim_end u)) (any_begins ps (trim_end u)) found.trimmed;
          solid = found.solid;
        }

-- a text isn't blank where it isn't behind its front blanks
not_blank_behind : (t : List ℕ) → all_blank (trim_start t) ≡ false → all_blank t ≡ false
not_blank_behind [] h = h
not_blank_behind (a ∷ t) h = by_test (is_blank a) h (not_blank_behind t)
  where
    by_test : (x : Bool) → all_blank (cond x (trim_start t) (a ∷ t)) ≡ false → (all_blank (trim_start t) ≡ false → all_blank t ≡ false) → (x && all_blank t) ≡ false
    by_test true h rest = rest h
    by_test false h rest = refl

never : false ≡ true → ⊥
never h = cc

-- such a token behind the front blanks, of which there is none where columns count
pub comment_head : (g : Row) (part : List ℕ) (k : ℕ) → trim_start part ≡ drop k part → any_solid_begins g.line_comment (drop k part) ≡ true
    → (0 < k → keeps_columns g.key ≡ false) → HasCommentHead g part
comment_head g part k front h columns =
    let found = stands g.line_comment (drop k part) h in
    record {
      solid = not_blank_behind part (ap all_blank front ∙ found.solid);
      line = by_columns (keeps_columns g.key) k refl columns found.whole (ap (λ u. any_begins g.line_comment (trim_end u)) front ∙ found.trimmed);
    }
  where
    by_columns : (x : Bool) (k : ℕ) → keeps_columns g.key ≡ x → (0 < k → keeps_columns g.key ≡ false) → any_begins g.line_comment (drop k part) ≡ true
        → any_begins g.line_comment (trim part) ≡ true → any_begins g.line_comment (cond x part (trim part)) ≡ true
    by_columns false k e none whole trimmed = trimmed
    by_columns true zero e none whole trimmed = whole
    by_columns true (suc k) e none whole trimmed = absurd (never (sym (none (omega arith)) ∙ e))

-- what stands from a place in a part of the text on
pub part_behind : (t : List ℕ) (start head stop : ℕ) → start ≤ head → head ≤ stop → take (stop - head) (drop head t) ≡ drop (head - start) (take (stop - start) (drop start t))
part_behind t start head stop low high =
    let place : start + (head - start) ≡ head = omega (arith, low) in
    let size : stop - start ≡ (head - start) + (stop - head) = omega (arith, low, high) in
    sym (ap (λ n. drop (head - start) (take n (drop start t))) size ∙ drop-take (head - start) (stop - head) (drop start t)
    ∙ ap (take (stop - head)) (drop-drop (head - start) start t ∙ ap (λ n. drop n t) place))

-- a part with a line comment at its head is a comment
pub comment_line : (g : Row) (docs_are_comments : Bool) (t : List ℕ) → HasCommentHead g t → class_of g docs_are_comments (record { begun = None; bytes = t; ended = None }) ≡ Comment
unfolding class_of
comment_line g docs_are_comments t h = rw h.solid (rw h.line (both g.literate))
  where
    both : (y : Bool) → cond y Comment Comment ≡ Comment
    both true = refl
    both false = refl

-- A comment opens where a pair of the list has such an opener: also at the text without the blanks at
-- its end, which isn't blank.
record Opens (ps : List Pair) (u closer : List ℕ) : Type 0 where
  whole : opens_with ps u closer ≡ true
  trimmed : opens_with ps (trim_end u) closer ≡ true
  solid : all_blank u ≡ false

opens : (ps : List Pair) (u closer : List ℕ) → opens_solid ps u closer ≡ true → Opens ps u closer
opens [] u closer h = cc
opens (p ∷ ps) u closer h = by_pair ((ends_solid p.opener && begins p.opener u) && bytes_eq p.closer closer) refl h (opens ps u closer)
  where
    by_pair : (x : Bool) → ((ends_solid p.opener && begins p.opener u) && bytes_eq p.closer closer) ≡ x → (x || opens_solid ps u closer) ≡ true
        → (opens_solid ps u closer ≡ true → Opens ps u closer) → Opens (p ∷ ps) u closer
    by_pair true e h rest =
        let both : (ends_solid p.opener && begins p.opener u) ≡ true = and_left (ends_solid p.opener && begins p.opener u) (bytes_eq p.closer closer) e in
        let same : bytes_eq p.closer closer ≡ true = and_right (ends_solid p.opener && begins p.opener u) (bytes_eq p.closer closer) e in
        let s : ends_solid p.opener ≡ true = and_left (ends_solid p.opener) (begins p.opener u) both in
        let b : begins p.opener u ≡ true = and_right (ends_solid p.opener) (begins p.opener u) both in
        record {
          whole = ap (λ z. (z && bytes_eq p.closer closer) || opens_with ps u closer) b ∙ ap (λ z. z || opens_with ps u closer) same;
          trimmed = ap (λ z. (z && bytes_eq p.closer closer) || opens_with ps (trim_end u) closer) (keeps p.opener u s b)
              ∙ ap (λ z. z || opens_with ps (trim_end u) closer) same;
          solid = not_blank p.opener u s b;
        }
    by_pair false e h rest =
        let found = rest h in
        record {
          whole = or_true (begins p.opener u && bytes_eq p.closer closer) (opens_with ps u closer) found.whole;
          trimmed = or_true (begins p.opener (trim_end u) && bytes_eq p.closer closer) (opens_with ps (trim_end u) closer) found.trimmed;
          solid = found.solid;
        }

-- at the head of a part too, behind whose front blanks, of which there is none where columns count, it stands
head_opens : (g : Row) (ps : List Pair) (part closer : List ℕ) (k : ℕ) → trim_start part ≡ drop k part → Opens ps (drop k part) closer
    → (0 < k → keeps_columns g.key ≡ false) → opens_with ps (head_of g part) closer ≡ true
head_opens g ps part closer k front found columns = by_columns (keeps_columns g.key) k refl columns found.whole (ap (λ u. opens_with ps (trim_end u) closer) front ∙ found.trimmed)
  where
    by_columns : (x : Bool) (k : ℕ) → keeps_columns g.key ≡ x → (0 < k → keeps_columns g.key ≡ false) → opens_with ps (drop k part) closer ≡ true
        → opens_with ps (trim part) closer ≡ true → opens_with ps (cond x part (trim part)) closer ≡ true
    by_columns false k e none whole trimmed = trimmed
    by_columns true zero e none whole trimmed = whole
    by_columns true (suc k) e none whole trimmed = absurd (never (sym (none (omega arith)) ∙ e))

pub comment_opens : (g : Row) (part closer : List ℕ) (k : ℕ) → trim_start part ≡ drop k part → (0 < k → keeps_columns g.key ≡ false)
    → (opens_solid g.multi_line_comments (drop k part) closer || opens_solid g.nested_comments (drop k part) closer) ≡ true
    → OpensComment g part closer
comment_opens g part closer k front columns h =
    by_sort (opens_solid g.multi_line_comments (drop k part) closer) refl h
  where
    by_sort : (x : Bool) → opens_solid g.multi_line_comments (drop k part) closer ≡ x → (x || opens_solid g.nested_comments (drop k part) closer) ≡ true → OpensComment g part closer
    by_sort true e h =
        let found = opens g.multi_line_comments (drop k part) closer e in
        record {
          solid = not_blank_behind part (ap all_blank front ∙ found.solid);
          opens = ap (λ z. z || opens_with g.nested_comments (head_of g part) closer) (head_opens g g.multi_line_comments part closer k front found columns);
        }
    by_sort false e h =
        let found = opens g.nested_comments (drop k part) closer h in
        record {
          solid = not_blank_behind part (ap all_blank front ∙ found.solid);
          opens = or_true (opens_with g.multi_line_comments (head_of g part) closer) (opens_with g.nested_comments (head_of g part) closer)
              (head_opens g g.nested_comments part closer k front found columns);
        }

-- a part that ends in a comment which opened at its head is one
in_no_string : (ended : Mode) → in_comment ended ≡ true → (in_string ended ≡ false) × (in_doc_string ended ≡ false)
in_no_string None h = cc
in_no_string (Some e) h = by_kind e.kind h
  where
    by_kind : (k : ItemKind) → is_comment k ≡ true → (in_string (Some (record { kind = k; closer = e.closer })) ≡ false) × (in_doc_string (Some (record { kind = k; closer = e.closer })) ≡ false)
    by_kind DocString h = cc
    by_kind VerbatimString h = cc
    by_kind OrdinaryString h = cc
    by_kind MultiLineComment h = (refl, refl)

pub opened_line : (g : Row) (docs_are_comments : Bool) (t : List ℕ) (ended : Mode) → g.literate ≡ false → in_comment ended ≡ true → OpensComment g t (closer_of ended)
    → class_of g docs_are_comments (record { begun = None; bytes = t; ended = ended }) ≡ Comment
unfolding class_of
opened_line g docs_are_comments t ended plain e h =
    let none = in_no_string ended e in
    rw h.solid (rw plain (rw none.1 (rw none.0 (rw e (rw h.opens
    (by_tests (any_begins g.line_comment (head_of g t)) (encloses g.multi_line_comments (trim t) || encloses g.nested_comments (trim t))))))))
  where
    by_tests : (a b : Bool) → cond a Comment (cond b Comment Comment) ≡ Comment
    by_tests true b = refl
    by_tests false true = refl
    by_tests false false = refl
