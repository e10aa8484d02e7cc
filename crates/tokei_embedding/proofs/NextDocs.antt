-- The first place of a line at which a block of doc comments opens.
use Rattle.std.proofs.Common.{◌≡◌, ℕ, suc, zero, ◌+◌, ◌-◌, ◌<◌, ◌≤◌, Bool, true, false, ◌&&◌, ◌==◌, cond, List, [], ◌∷◌, length, take, drop, codes, get_or, ◌⊎◌, inl, inr, Option, None, Some, option_map, is_some, refl, sym, ◌∙◌, ap, arith, length-take, length-drop, get_or-drop}
use Rattle.std.proofs.Math.Seq.{drop-cons}
use Rattle.std.proofs.lemmas.Bool.{cases_lt}
use Rattle.std.proofs.lemmas.List.{drop-drop, drop_all, get_or-take}
use Rattle.tokei_table_row.specs.Bytes.{is_blank, trim_start, begins}
use Rattle.tokei_embedding.proofs.Places.{part_from}
use Rattle.tokei_embedding.specs.DocComments.{doc_block, doc_of, lines_of, first_line, front_mark, mark_of, marked_len}

-- no mark stands in the line at a place before i
abbrev pub NoMarks : List ℕ → ℕ → Type 0
NoMarks line i = (j : ℕ) → j < i → j < length line → front_mark (drop j line) ≡ None

take_step : (x : Bool) (b : ℕ) (t : List ℕ) → take (length (first_line t)) t ≡ first_line t → take (length (cond x (b ∷ []) (b ∷ first_line t))) (b ∷ t) ≡ cond x (b ∷ []) (b ∷ first_line t)
take_step true b t h = refl
take_step false b t h = ap (λ w. b ∷ w) h

take_first : (t : List ℕ) → take (length (first_line t)) t ≡ first_line t
take_first [] = refl
take_first (b ∷ t) = take_step (b == 10) b t (take_first t)

drop_step : (x : Bool) (b k : ℕ) (t : List ℕ)
    → (k < length (first_line t) → first_line (drop k t) ≡ drop k (first_line t))
    → suc k < length (cond x (b ∷ []) (b ∷ first_line t))
    → first_line (drop k t) ≡ drop (suc k) (cond x (b ∷ []) (b ∷ first_line t))
drop_step true b k t behind l = absurd (omega (arith, l))
drop_step false b k t behind l = behind (omega (arith, l))

pub drop_first : (k : ℕ) (t : List ℕ) → k < length (first_line t) → first_line (drop k t) ≡ drop k (first_line t)
drop_first zero t l = refl
drop_first (suc k) [] l = refl
drop_first (suc k) (b ∷ t) l = drop_step (b == 10) b k t (drop_first k t) l

-- the rest of a line is the first line of the text from there on
rest_of_line : (t : List ℕ) (at to p : ℕ) → to ≡ at + length (first_line (drop at t)) → at ≤ p → p < to → first_line (drop p t) ≡ drop (p - at) (take (to - at) (drop at t))
rest_of_line t at to p e l m =
    let rest = drop at t in
    let k = p - at in
    let place : at + k ≡ p = omega arith in
    let n : to - at ≡ length (first_line rest) = omega (arith, e) in
    ap (λ j. first_line (drop j t)) (sym place) ∙ ap first_line (sym (drop-drop k at t)) ∙ drop_first k rest (omega (arith, e, l, m))
    ∙ ap (drop k) (sym (take_first rest) ∙ ap (λ j. take j rest) (sym n))

pub no_doc : (t : List ℕ) (at to p : ℕ) → to ≡ at + length (first_line (drop at t)) → at ≤ p → p < to → mark_of (drop (p - at) (take (to - at) (drop at t))) ≡ None → doc_block (drop p t) ≡ None
no_doc t at to p e l m h =
    ap (option_map (λ mark. doc_of (drop p t) (marked_len mark (lines_of (drop p t))))) (ap mark_of (rest_of_line t at to p e l m) ∙ h)

some_of : (t : List ℕ) (o : Option (List ℕ)) → is_some o ≡ true → is_some (option_map (λ mark. doc_of t (marked_len mark (lines_of t))) o) ≡ true
some_of t None h = absurd (cc)
some_of t (Some m) h = refl

pub a_doc : (t : List ℕ) (at to p : ℕ) → to ≡ at + length (first_line (drop at t)) → at ≤ p → p < to
    → is_some (mark_of (drop (p - at) (take (to - at) (drop at t)))) ≡ true
    → is_some (doc_block (drop p t)) ≡ true
a_doc t at to p e l m h = some_of (drop p t) (mark_of (first_line (drop p t))) (ap (λ w. is_some (mark_of w)) (rest_of_line t at to p e l m) ∙ h)

-- the mark at a place, by its byte
mark_from : (line : List ℕ) (i : ℕ) → i < length line → mark_of (drop i line) ≡ front_mark (cond (is_blank (get_or line i 0)) (trim_start (drop (suc i) line)) (drop i line))
mark_from line i l =
    let here : drop i line ≡ get_or line i 0 ∷ drop (suc i) line = drop-cons line i 0 l in
    ap mark_of here ∙ ap (λ w. front_mark (cond (is_blank (get_or line i 0)) (trim_start (drop (suc i) line)) w)) (sym here)

mark_behind : (line : List ℕ) (i : ℕ) → i < length line → is_blank (get_or line i 0) ≡ true → mark_of (drop i line) ≡ mark_of (drop (suc i) line)
mark_behind line i l h = mark_from line i l ∙ ap (λ x. front_mark (cond x (trim_start (drop (suc i) line)) (drop i line))) h

mark_here : (line : List ℕ) (i : ℕ) → i < length line → is_blank (get_or line i 0) ≡ false → mark_of (drop i line) ≡ front_mark (drop i line)
mark_here line i l h = mark_from line i l ∙ ap (λ x. front_mark (cond x (trim_start (drop (suc i) line)) (drop i line))) h

-- a mark begins with a slash
no_slash : (line : List ℕ) (j : ℕ) → j < length line → (get_or line j 0 == 47) ≡ false → front_mark (drop j line) ≡ None
no_slash line j l h =
    let other : (47 == get_or line j 0) ≡ false = flipped (get_or line j 0) h in
    let b = get_or line j 0 in
    let t = drop (suc j) line in
    ap front_mark (drop-cons line j 0 l)
    ∙ ap (λ x. cond (x && begins (codes "//") t) (Some (codes "///")) (cond (x && begins (codes "/!") t) (Some (codes "//!")) None)) other
  where
    flipped : (b : ℕ) → (b == 47) ≡ false → (47 == b) ≡ false
    flipped b h = grind arith

none_is : (o : Option (List ℕ)) → is_some o ≡ false → o ≡ None
none_is None h = refl
none_is (Some m) h = absurd (cc)

some_mapped : {A : Type 0} (f : A → List ℕ) (o : Option A) → is_some (option_map f o) ≡ is_some o
some_mapped f None = refl
some_mapped f (Some m) = refl

-- whether a mark was found, by what the code calls a mark
pub mark_found : {A : Type 0} (f : A → List ℕ) (o : Option A) (t : List ℕ) (x : Bool) → option_map f o ≡ front_mark t → is_some o ≡ x → is_some (front_mark t) ≡ x
mark_found f o t x e h = ap is_some (sym e) ∙ some_mapped f o ∙ h

-- the byte of a line is that of its text
byte_of_line : (t : List ℕ) (at to j : ℕ) → at + j < to → get_or (take (to - at) (drop at t)) j 0 ≡ get_or t (at + j) 0
byte_of_line t at to j l = get_or-take (to - at) (drop at t) j 0 (omega arith) ∙ get_or-drop at t j 0

-- no mark stands before a slash, where none does before a place and no slash between
pub marks_to : (t : List ℕ) (at to from slash : ℕ) → at ≤ from → slash ≤ to → to ≤ length t → NoMarks (take (to - at) (drop at t)) (from - at)
    → ((p : ℕ) → from ≤ p → p < slash → (get_or t p 0 == 47) ≡ false) → NoMarks (take (to - at) (drop at t)) (slash - at)
marks_to t at to from slash a b c none apart j l m = by (cases_lt j (from - at))
  where
    line : List ℕ
    line = take (to - at) (drop at t)

    by : (j < from - at) ⊎ (from - at ≤ j) → front_mark (drop j line) ≡ None
    by (inl k) = none j k m
    by (inr k) = no_slash line j m (ap (λ b. b == 47) (byte_of_line t at to j (omega arith)) ∙ apart (at + j) (omega arith) (omega arith))

-- nor at the slash, where none was found there
pub marks_over : (t : List ℕ) (at to slash next : ℕ) → next ≡ slash + 1 → at ≤ slash → slash < to → NoMarks (take (to - at) (drop at t)) (slash - at)
    → is_some (front_mark (take (to - slash) (drop slash t))) ≡ false → NoMarks (take (to - at) (drop at t)) (next - at)
marks_over t at to slash next n a b none h j l m = by (cases_lt j (slash - at))
  where
    line : List ℕ
    line = take (to - at) (drop at t)

    by : (j < slash - at) ⊎ (slash - at ≤ j) → front_mark (drop j line) ≡ None
    by (inl k) = none j k m
    by (inr k) =
        let here : j ≡ slash - at = omega (arith, n) in
        ap (λ i. front_mark (drop i line)) here ∙ ap front_mark (part_from t at slash to a (omega arith)) ∙ none_is (front_mark (take (to - slash) (drop slash t))) h

-- where no mark stands from a place on to a later one, and none behind blanks there
none_over : (n k i : ℕ) (line : List ℕ) → i ≡ k + n → i ≤ length line → NoMarks line i → mark_of (drop i line) ≡ None → mark_of (drop k line) ≡ None
none_over zero k i line e l none h = let here : k ≡ i = omega (arith, e) in ap (λ j. mark_of (drop j line)) here ∙ h
none_over (suc n) k i line e l none h = by (is_blank (get_or line k 0)) refl (none_over n (suc k) i line (omega (arith, e)) l none h)
  where
    by : (x : Bool) → is_blank (get_or line k 0) ≡ x → mark_of (drop (suc k) line) ≡ None → mark_of (drop k line) ≡ None
    by true b rest = mark_behind line k (omega (arith, e, l)) b ∙ rest
    by false b rest = mark_here line k (omega (arith, e, l)) b ∙ none k (omega (arith, e)) (omega (arith, e, l))

same_over : (n k i : ℕ) (line : List ℕ) → i ≡ k + n → i ≤ length line → ((j : ℕ) → k ≤ j → j < i → is_blank (get_or line j 0) ≡ true) → mark_of (drop k line) ≡ mark_of (drop i line)
same_over zero k i line e l blank = let here : k ≡ i = omega (arith, e) in ap (λ j. mark_of (drop j line)) here
same_over (suc n) k i line e l blank =
    mark_behind line k (omega (arith, e, l)) (blank k (omega arith) (omega (arith, e)))
    ∙ same_over n (suc k) i line (omega (arith, e)) l (λ j a b. blank j (omega arith) b)

-- no mark stands behind blanks before a place behind a byte that isn't blank
pub none_before : (t : List ℕ) (at to slash start p : ℕ) → at ≤ p → p < start → start ≤ slash → slash ≤ to → to ≤ length t → NoMarks (take (to - at) (drop at t)) (slash - at)
    → is_blank (get_or t (start - 1) 0) ≡ false → mark_of (drop (p - at) (take (to - at) (drop at t))) ≡ None
none_before t at to slash start p a b c d e none h =
    none_over (i - (p - at)) (p - at) i line (omega arith) (omega (arith, long)) (λ j l m. none j (omega arith) m)
    (mark_here line i (omega (arith, long)) (ap is_blank (byte_of_line t at to i (omega arith)) ∙ ap (λ q. is_blank (get_or t q 0)) place ∙ h) ∙ none i (omega arith) (omega (arith, long)))
  where
    line : List ℕ
    line = take (to - at) (drop at t)

    i : ℕ
    i = start - 1 - at

    place : at + i ≡ start - 1
    place = omega arith

    long : length line ≡ to - at
    long = omega (arith, length-take (to - at) (drop at t), length-drop at t)

-- the mark at a slash stands behind the blanks before it
pub mark_behind_blanks : (t : List ℕ) (at to slash start : ℕ) → at ≤ start → start ≤ slash → slash < to → to ≤ length t → ((p : ℕ) → start ≤ p → p < slash → is_blank (get_or t p 0) ≡ true)
    → get_or t slash 0 ≡ 47 → is_some (front_mark (take (to - slash) (drop slash t))) ≡ true → is_some (mark_of (drop (start - at) (take (to - at) (drop at t)))) ≡ true
mark_behind_blanks t at to slash start a b c d blank found h =
    ap is_some (same_over (slash - start) (start - at) i line (omega arith) (omega (arith, long))
    (λ j l m. ap is_blank (byte_of_line t at to j (omega arith))
    ∙ blank (at + j) (omega arith) (omega arith)))
    ∙ ap is_some (mark_here line i (omega (arith, long)) (ap is_blank (byte_of_line t at to i (omega arith) ∙ ap (λ q. get_or t q 0) place ∙ found)))
    ∙ ap (λ w. is_some (front_mark w)) (part_from t at slash to (omega arith) (omega arith)) ∙ h
  where
    line : List ℕ
    line = take (to - at) (drop at t)

    i : ℕ
    i = slash - at

    place : at + i ≡ slash
    place = omega arith

    long : length line ≡ to - at
    long = omega (arith, length-take (to - at) (drop at t), length-drop at t)

-- no mark stands in a line that was searched to its end
pub none_in_line : (t : List ℕ) (at to p : ℕ) → at ≤ p → p < to → to ≤ length t → NoMarks (take (to - at) (drop at t)) (to - at) → mark_of (drop (p - at) (take (to - at) (drop at t))) ≡ None
none_in_line t at to p a b c none =
    none_over (to - p) (p - at) (to - at) line (omega arith) (omega (arith, long)) none (ap mark_of (drop_all (to - at) line (omega (arith, long))))
  where
    line : List ℕ
    line = take (to - at) (drop at t)

    long : length line ≡ to - at
    long = omega (arith, length-take (to - at) (drop at t), length-drop at t)
