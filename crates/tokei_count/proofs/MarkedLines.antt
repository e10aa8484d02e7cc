-- Lines among which some are line comments, told by marked bytes at their fronts, are counted all at
-- once up to a place where a line begins: by their newlines, by their fronts, and by the marked bytes
-- among these.
use Rattle.std.proofs.Common.{◌≡◌, ℕ, zero, suc, ◌+◌, ◌-◌, ◌<◌, ◌≤◌, ◌==◌, ◌&&◌, ◌||◌, not, cond, Bool, true, false, ◌⊎◌, inl, inr, Option, None, Some, option_map, unwrap_or}
use Rattle.std.proofs.Common.{List, [], ◌∷◌, ◌++◌, length, take, drop, get_or, drop-cons, take-add, take-take, refl, sym, ◌∙◌, ap, subst, zero-le, arith, length-drop}
use Rattle.std.specs.List.{list_all}
use Rattle.std.proofs.lemmas.List.{drop-drop, drop-take, get_or-drop, get_or-take, length-take-le}
use Rattle.tokei_bytes.proofs.LineSums.{last_byte, none_behind}
use Rattle.tokei_bytes.specs.Lines.{blank_after, blank_behind, flag, front_count, goes_on, line_count, newline, newline_count}
use Rattle.tokei_embedding.proofs.NextDocs.{drop_first}
use Rattle.tokei_table.specs.Bytes.{all_blank, begins, begins_with_one, is_blank, trim_start}
use Rattle.tokei_table.specs.FirstOpener.{first_opener}
use Rattle.tokei_table.specs.Sound.{is_token, no_newline}
use Rattle.tokei_table.specs.Slices.{between}
use Rattle.tokei_parts.proofs.CodeHeads.{blank_part, no_head}
use Rattle.tokei_parts.proofs.CommentHeads.{comment_head, comment_line}
use Rattle.tokei_parts.proofs.Fits.{and_left, and_right}
use Rattle.tokei_parts.proofs.LineEnds.{below_or}
use Rattle.tokei_parts.proofs.Lines.{take-first, first_within}
use Rattle.tokei_parts.proofs.OpenersInLines.{begins-line}
use Rattle.tokei_parts.specs.Class.{keeps_columns}
use Rattle.tokei_parts.specs.CodeHeads.{FrontBeginsNone, HasCodeHead}
use Rattle.tokei_parts.specs.CommentHeads.{HasCommentHead, any_solid_begins, ends_solid}
use Rattle.tokei_parts.specs.Glance.{opener_place}
use Rattle.tokei_parts.specs.LineMarks.{AreMarks}
use Rattle.tokei_embedding.specs.DocComments.{first_line}
use Rattle.tokei_parts.specs.PlainBytes.{BeginsNone}
use Rattle.tokei_parts.specs.ReadingOf.{row_in, openers_in}
use Rattle.tokei_parts.specs.Seen.{chain_of}
use Rattle.tokei_parts.specs.declared.class.Class.TheVariants.{Comment}
use Rattle.tokei_parts.specs.declared.reading.Reading.{Reading}
use Rattle.tokei_count.specs.LineLooks.{AreTold, HasLineComment, IsClear, IsFrontAt, mark_count}
use Rattle.tokei_count.specs.NoComments.{counts_with}
use Rattle.tokei_count.specs.UnderWay.{IsUnderWay}
use Rattle.tokei_count.specs.declared.text_reading.ReadSoFar.{ReadSoFar}
use Rattle.tokei_stats.specs.Seen.{sums_of}
use Rattle.tokei_stats.specs.declared.sums.Sums.{Sums}
use Rattle.tokei_count.proofs.ClearLines.{cut_lines, headed_class}
use Rattle.tokei_count.proofs.LinesBefore.{class_plain, class_with, ends_blank, marked_before, never}
use Rattle.tokei_count.proofs.UnderWay.{gone_on}

-- whether the line has a front that is marked
abbrev front_marked : (ℕ → Bool) → List ℕ → Bool
front_marked is_mark [] = false
front_marked is_mark (b ∷ t) = cond (is_blank b) (front_marked is_mark t) (is_mark b)

-- a blank line has none
solid_marked : (is_mark : ℕ → Bool) (u : List ℕ) → front_marked is_mark u ≡ (not (all_blank u) && front_marked is_mark u)
solid_marked is_mark [] = refl
solid_marked is_mark (b ∷ t) = by_test (is_blank b) (solid_marked is_mark t)
  where
    by_test : (x : Bool) → front_marked is_mark t ≡ (not (all_blank t) && front_marked is_mark t)
        → cond x (front_marked is_mark t) (is_mark b) ≡ (not (x && all_blank t) && cond x (front_marked is_mark t) (is_mark b))
    by_test true ih = ih
    by_test false ih = refl

-- the marks of the first line, at most one, and of the others
marks_line : (is_mark : ℕ → Bool) (u : List ℕ) (blank : Bool)
    → mark_count is_mark blank u
    ≡ cond blank (flag (front_marked is_mark (first_line u))) 0 + mark_count is_mark true (drop (length (first_line u)) u)
marks_line is_mark [] true = refl
marks_line is_mark [] false = refl
marks_line is_mark (b ∷ t) blank = by_ends (first_line t) (mark_count is_mark true (drop (length (first_line t)) t)) (b == newline) (is_blank b) blank refl (ends_blank b) refl (marks_line is_mark t)
  where
    by_ends : (line : List ℕ) (more : ℕ) (ends is blank : Bool) → is_blank b ≡ is → (ends ≡ true → is ≡ true) → mark_count is_mark true (drop (length line) t) ≡ more
        → ((c : Bool) → mark_count is_mark c t ≡ cond c (flag (front_marked is_mark line)) 0 + more)
        → flag ((blank && not is) && is_mark b) + mark_count is_mark (ends || (blank && is)) t
        ≡ cond blank (flag (front_marked is_mark (cond ends (b ∷ []) (b ∷ line)))) 0 + mark_count is_mark true (drop (length (cond ends (b ∷ []) (b ∷ line))) (b ∷ t))
    by_ends line more true false blank q e m ih = absurd (never (e refl))
    by_ends line more true true true q e m ih = ap (λ x. flag (cond x false (is_mark b)) + mark_count is_mark true t) (sym q)
    by_ends line more true true false q e m ih = refl
    by_ends line more false true true q e m ih = omega (arith, ih true, m, ap (λ x. flag (cond x (front_marked is_mark line) (is_mark b))) q)
    by_ends line more false true false q e m ih = omega (arith, ih false, m)
    by_ends line more false false true q e m ih = omega (arith, ih false, m, ap (λ x. flag (cond x (front_marked is_mark line) (is_mark b))) q)
    by_ends line more false false false q e m ih = omega (arith, ih false, m)

-- each mark is a front
both_few : (x y : Bool) → flag (x && y) ≤ flag x
both_few true true = omega arith
both_few true false = omega arith
both_few false y = omega arith

marks_few : (is_mark : ℕ → Bool) (u : List ℕ) (blank : Bool) → mark_count is_mark blank u ≤ front_count blank u
marks_few is_mark [] blank = omega arith
marks_few is_mark (b ∷ t) blank = omega (arith, both_few (blank && not (is_blank b)) (is_mark b), marks_few is_mark t (blank_behind blank b))

-- whether the line has no front yet behind a text and what follows
blank_over : (v u : List ℕ) (blank : Bool) → blank_after blank (v ++ u) ≡ blank_after (blank_after blank v) u
blank_over [] u blank = refl
blank_over (b ∷ v) u blank = blank_over v u (blank_behind blank b)

-- behind a newline it has none
line_ended : (u : List ℕ) (blank : Bool) → 0 < length u → goes_on u ≡ false → blank_after blank (first_line u) ≡ true
line_ended [] blank some h = absurd (omega (arith, some))
line_ended (b ∷ []) blank some h = by_ends (b == newline) refl h
  where
    by_ends : (ends : Bool) → (b == newline) ≡ ends → not ends ≡ false → blank_after blank (cond ends (b ∷ []) (b ∷ [])) ≡ true
    by_ends true e h = ap (λ x. x || (blank && is_blank b)) e
    by_ends false e h = cc
line_ended (b ∷ c ∷ s) blank some h = by_ends (b == newline) refl (λ x. line_ended (c ∷ s) x (omega arith) h)
  where
    by_ends : (ends : Bool) → (b == newline) ≡ ends → ((x : Bool) → blank_after x (first_line (c ∷ s)) ≡ true) → blank_after blank (cond ends (b ∷ []) (b ∷ first_line (c ∷ s))) ≡ true
    by_ends true e ih = ap (λ x. x || (blank && is_blank b)) e
    by_ends false e ih = ih (blank_behind blank b)

-- a between and the bytes behind it
between_more : (text : List ℕ) (start at n : ℕ) → start ≤ at → between text start (at + n) ≡ between text start at ++ take n (drop at text)
between_more text start at n low =
    let size : at + n - start ≡ (at - start) + n = omega (arith, low) in
    let place : start + (at - start) ≡ at = omega (arith, low) in
    ap (λ k. take k (drop start text)) size ∙ take-add (at - start) n (drop start text)
    ∙ ap (λ w. between text start at ++ take n w) (drop-drop (at - start) start text ∙ ap (λ k. drop k text) place)

-- a stretch, by what the text is up to its end
cut_at : (text : List ℕ) (start stop : ℕ) → start ≤ stop → drop start (take stop text) ≡ between text start stop
cut_at text start stop low =
    let place : stop ≡ start + (stop - start) = omega (arith, low) in
    ap (λ n. drop start (take n text)) place ∙ drop-take start (stop - start) text

-- where no opener stands before a place, the first one stands there or behind it
clear_place : (os : List (List ℕ)) (u : List ℕ) (n : ℕ) → n ≤ length u → ((k : ℕ) → k < n → begins_with_one os (drop k u) ≡ false) → n ≤ opener_place os u
clear_place os u zero h none = zero-le
clear_place os [] (suc n) h none = absurd (omega (arith, h))
clear_place os (b ∷ t) (suc n) h none = by_test (begins_with_one os (b ∷ t)) (none 0 (omega arith)) (clear_place os t n (omega (arith, h)) (λ k l. none (suc k) (omega (arith, l))))
  where
    later : (o : Option ℕ) → n ≤ unwrap_or o (length t) → suc n ≤ unwrap_or (option_map suc o) (suc (length t))
    later None l = omega (arith, l)
    later (Some k) l = omega (arith, l)

    by_test : (x : Bool) → x ≡ false → n ≤ opener_place os t → suc n ≤ unwrap_or (cond x (Some 0) (option_map suc (first_opener os t))) (suc (length t))
    by_test true e l = cc
    by_test false e l = later (first_opener os t) l

-- a token holds no newline
token_line : (p : List ℕ) → is_token p ≡ true → no_newline p ≡ true
token_line [] h = cc
token_line (b ∷ t) h = and_left (no_newline (b ∷ t)) (not (all_blank (b ∷ t))) h

-- so one stands at a line's front where it stands at the text's
solid_line : (ps : List (List ℕ)) (u : List ℕ) → list_all is_token ps ≡ true → any_solid_begins ps (first_line u) ≡ any_solid_begins ps u
solid_line [] u h = refl
solid_line (p ∷ ps) u h =
    ap (λ w. (ends_solid p && w) || any_solid_begins ps (first_line u)) (begins-line p u (token_line p (and_left (is_token p) (list_all is_token ps) h)))
    ∙ ap (λ w. (ends_solid p && begins p u) || w) (solid_line ps u (and_right (is_token p) (list_all is_token ps) h))

-- the front of a line
record Front (is_mark : ℕ → Bool) (line : List ℕ) : Type 0 where
  place : ℕ
  within : place < length line
  front : trim_start line ≡ drop place line
  blank : blank_after true (take place line) ≡ true
  solid : is_blank (get_or line place 0) ≡ false
  marked : front_marked is_mark line ≡ is_mark (get_or line place 0)
  first : (is_blank (get_or line 0 0) ≡ true) ⊎ (place ≡ 0)

-- a line is blank or has one
find_front : (is_mark : ℕ → Bool) (line : List ℕ) → (trim_start line ≡ []) ⊎ Front is_mark line
find_front is_mark [] = inl refl
find_front is_mark (b ∷ t) = by_test (is_blank b) refl (find_front is_mark t)
  where
    behind : (x y : Bool) → y ≡ true → (x || (true && y)) ≡ true
    behind true y h = refl
    behind false y h = h

    by_test : (x : Bool) → is_blank b ≡ x → (trim_start t ≡ []) ⊎ Front is_mark t → (trim_start (b ∷ t) ≡ []) ⊎ Front is_mark (b ∷ t)
    by_test true e (inl none) = inl (ap (λ x. cond x (trim_start t) (b ∷ t)) e ∙ none)
    by_test true e (inr f) = inr (record {
      place = suc f.place;
      within = omega (arith, f.within);
      front = ap (λ x. cond x (trim_start t) (b ∷ t)) e ∙ f.front;
      blank = ap (λ x. blank_after x (take f.place t)) (behind (b == newline) (is_blank b) e) ∙ f.blank;
      solid = f.solid;
      marked = ap (λ x. cond x (front_marked is_mark t) (is_mark b)) e ∙ f.marked;
      first = inl e;
    })
    by_test false e f = inr (record {
      place = 0;
      within = omega arith;
      front = ap (λ x. cond x (trim_start t) (b ∷ t)) e;
      blank = refl;
      solid = e;
      marked = ap (λ x. cond x (front_marked is_mark t) (is_mark b)) e;
      first = inr refl;
    })

-- What a line is: at a front that isn't marked no choice can begin, and at a marked one a line comment
-- stands.
module _ (r : Reading) (is_mark : ℕ → Bool) (line : List ℕ) (marks : AreMarks is_mark r.matchers.now.begins r.matchers.now.openers) (small : (k : ℕ) → k < length line → get_or line k 0 < 256)
    (told : (f : Front is_mark line) → is_mark (get_or line f.place 0) ≡ true
    → (any_solid_begins (row_in r).line_comment (drop f.place line) ≡ true) × (keeps_columns (row_in r).key ≡ false)) where
  abbrev literate : Bool
  literate = (row_in r).literate

  begins_none : (k : ℕ) → k < length line → is_mark (get_or line k 0) ≡ false → BeginsNone r.matchers.now (get_or line k 0)
  begins_none k l h = record { small = small k l; outside = marks.choices (get_or line k 0) (small k l) h }

  first_plain : (f : Front is_mark line) → is_mark (get_or line f.place 0) ≡ false → is_mark (get_or line 0 0) ≡ false
  first_plain f h = by_first f.first
    where
      by_first : (is_blank (get_or line 0 0) ≡ true) ⊎ (f.place ≡ 0) → is_mark (get_or line 0 0) ≡ false
      by_first (inl blank) = marks.blanks (get_or line 0 0) blank
      by_first (inr e) = ap (λ k. is_mark (get_or line k 0)) (sym e) ∙ h

  plain_head : (f : Front is_mark line) → is_mark (get_or line f.place 0) ≡ false → HasCodeHead r.matchers.now line
  plain_head f h =
      let some : 0 < length line = omega (arith, f.within) in
      record {
        first = subst (FrontBeginsNone r.matchers.now) (sym (drop-cons line 0 0 some)) (begins_none 0 some (first_plain f h));
        head = subst (FrontBeginsNone r.matchers.now) (sym (f.front ∙ drop-cons line f.place 0 f.within)) (begins_none f.place f.within h);
      }

  both : (x : Bool) → cond x Comment Comment ≡ Comment
  both true = refl
  both false = refl

  comment : (f : Front is_mark line) → is_mark (get_or line f.place 0) ≡ true → class_plain r line ≡ class_with literate (all_blank line) true
  comment f h =
      let found = told f h in
      let head : HasCommentHead (row_in r) line = comment_head (row_in r) line f.place f.front found.0 (λ some. found.1) in
      comment_line (row_in r) r.docs_are_comments line head ∙ sym (ap (λ x. class_with literate x true) head.solid ∙ both literate)

  line_class : class_plain r line ≡ class_with literate (all_blank line) (front_marked is_mark line)
  line_class = by_front (find_front is_mark line)
    where
      by_mark : (f : Front is_mark line) (x : Bool) → is_mark (get_or line f.place 0) ≡ x → class_plain r line ≡ class_with literate (all_blank line) (front_marked is_mark line)
      by_mark f true h = comment f h ∙ sym (ap (class_with literate (all_blank line)) (f.marked ∙ h))
      by_mark f false h = headed_class r line (plain_head f h) ∙ sym (ap (class_with literate (all_blank line)) (f.marked ∙ h))

      by_front : (trim_start line ≡ []) ⊎ Front is_mark line → class_plain r line ≡ class_with literate (all_blank line) (front_marked is_mark line)
      by_front (inl none) = blank_part (row_in r) r.docs_are_comments line None none ∙ sym (ap (λ x. class_with literate x (front_marked is_mark line)) (no_head line none))
      by_front (inr f) = by_mark f (is_mark (get_or line f.place 0)) refl

-- The lines of the text from the place on up to `stop`, where a line begins.
module _ (r : Reading) (p : ReadSoFar) (is_mark : ℕ → Bool) (stop : ℕ) (bytes : (k : ℕ) → get_or r.text.now k 0 < 256)
    (marks : AreMarks is_mark r.matchers.now.begins r.matchers.now.openers) (inside : stop ≤ length r.text.now)
    (ends : p.start < stop → get_or r.text.now (stop - 1) 0 ≡ newline) (told : AreTold (row_in r) is_mark r.text.now p.start stop) where
  abbrev text : List ℕ
  text = r.text.now

  abbrev seen : List ℕ
  seen = take stop text

  abbrev line_at : ℕ → List ℕ
  line_at at = first_line (drop at text)

  -- a line begins at the place
  abbrev begun : ℕ → Bool
  begun at = blank_after true (between text p.start at)

  seen_size : length seen ≡ stop
  seen_size = length-take-le stop text inside

  -- each line up to the place `stop` ends in a newline
  ends_there : (at : ℕ) → p.start ≤ at → at < stop → get_or text (stop - 1) 0 ≡ newline
  ends_there at low some = ends (omega (arith, low, some))

  same : (at : ℕ) → p.start ≤ at → at < stop → first_line (drop at seen) ≡ line_at at
  same at low some = cut_lines text stop at inside (ends_there at low some) some

  done_there : (at : ℕ) → p.start ≤ at → at < stop → goes_on (drop at seen) ≡ false
  done_there at low some =
      let last : get_or seen (length seen - 1) 0 ≡ newline =
      ap (λ n. get_or seen (n - 1) 0) seen_size ∙ get_or-take stop text (stop - 1) 0 (omega (arith, some)) ∙ ends_there at low some in
      last_byte seen at (omega (arith, seen_size, some)) ∙ ap (λ y. not (y == newline)) last

  short : (at : ℕ) → p.start ≤ at → at < stop → at + length (line_at at) ≤ stop
  short at low some = omega (arith, ap (λ (w : List ℕ). length w) (same at low some), first_within (drop at seen), length-drop at seen, seen_size, some)

  -- behind a line the next one begins
  goes : (at : ℕ) → p.start ≤ at → at < stop → begun at ≡ true → begun (at + length (line_at at)) ≡ true
  goes at low some here =
      let ended : blank_after (begun at) (line_at at) ≡ true = ap (blank_after (begun at)) (sym (same at low some))
      ∙ line_ended (drop at seen) (begun at) (omega (arith, length-drop at seen, seen_size, some)) (done_there at low some) in
      ap (blank_after true) (between_more text p.start at (length (line_at at)) low ∙ ap (λ w. between text p.start at ++ w) (take-first (drop at text)))
      ∙ blank_over (between text p.start at) (line_at at) true ∙ ended

  byte_there : (at k : ℕ) → k < length (line_at at) → get_or (line_at at) k 0 ≡ get_or text (at + k) 0
  byte_there at k l =
      ap (λ (w : List ℕ). get_or w k 0) (sym (take-first (drop at text))) ∙ get_or-take (length (line_at at)) (drop at text) k 0 l ∙ get_or-drop at text k 0

  -- at a line's marked front a line comment stands in the line
  told_line : (at : ℕ) → p.start ≤ at → at < stop → begun at ≡ true → (f : Front is_mark (line_at at)) → is_mark (get_or (line_at at) f.place 0) ≡ true
      → (any_solid_begins (row_in r).line_comment (drop f.place (line_at at)) ≡ true) × (keeps_columns (row_in r).key ≡ false)
  told_line at low some here f h =
      let u : List ℕ = drop at text in
      let tokens : List (List ℕ) = (row_in r).line_comment in
      let byte : get_or (line_at at) f.place 0 ≡ get_or text (at + f.place) 0 = byte_there at f.place f.within in
      let front : take f.place u ≡ take f.place (line_at at) =
      sym (take-take f.place (length (line_at at)) u (omega (arith, f.within))) ∙ ap (take f.place) (take-first u) in
      let is_front : IsFrontAt text p.start (at + f.place) = record {
        blank = ap (blank_after true) (between_more text p.start at f.place low) ∙ blank_over (between text p.start at) (take f.place u) true
            ∙ ap (λ x. blank_after x (take f.place u)) here ∙ ap (blank_after true) front ∙ f.blank;
        solid = ap is_blank (sym byte) ∙ f.solid;
      } in
      let has : HasLineComment (row_in r) text (at + f.place) =
      told (at + f.place) (omega (arith, low)) (omega (arith, f.within, short at low some)) is_front (ap is_mark (sym byte) ∙ h) in (
        ap (any_solid_begins tokens) (sym (drop_first f.place u f.within)) ∙ solid_line tokens (drop f.place u) r.sound.line_comment
            ∙ ap (any_solid_begins tokens) (drop-drop f.place at text) ∙ has.line,
        has.columns,
      )

  class_is : (at : ℕ) → p.start ≤ at → at < stop → begun at ≡ true → class_plain r (line_at at) ≡ class_with (row_in r).literate (all_blank (line_at at)) (front_marked is_mark (line_at at))
  class_is at low some here =
      let small : (k : ℕ) → k < length (line_at at) → get_or (line_at at) k 0 < 256 = λ k l. subst (λ x. x < 256) (sym (byte_there at k l)) (bytes (at + k)) in
      line_class r is_mark (line_at at) marks small (told_line at low some here)

  marks_are : (at : ℕ) → p.start ≤ at → at < stop → mark_count is_mark true (drop at seen)
      ≡ flag (not (all_blank (line_at at)) && front_marked is_mark (line_at at)) + mark_count is_mark true (drop (at + length (line_at at)) seen)
  marks_are at low some =
      marks_line is_mark (drop at seen) true
      ∙ ap (λ (w : List ℕ). flag (front_marked is_mark w) + mark_count is_mark true (drop (length w) (drop at seen))) (same at low some)
      ∙ ap (λ w. flag (front_marked is_mark (line_at at)) + mark_count is_mark true w) (drop-drop (length (line_at at)) at seen)
      ∙ ap (λ x. flag x + mark_count is_mark true (drop (at + length (line_at at)) seen)) (solid_marked is_mark (line_at at))

  none_left : p.start ≤ stop → goes_on (drop p.start seen) ≡ false
  none_left low = by_case (below_or p.start stop)
    where
      by_case : (p.start < stop) ⊎ (stop ≤ p.start) → goes_on (drop p.start seen) ≡ false
      by_case (inl some) = done_there p.start (omega arith) some
      by_case (inr over) = none_behind seen p.start (omega (arith, over, seen_size))

  -- all lines up to the place, by what was counted of them
  all_marked : (lines : Sums) (blank solid comments : ℕ) → r.skips ≡ true → IsUnderWay r p → chain_of p.stack.items ≡ [] → p.start ≤ stop
      → IsClear (openers_in r) text p.start stop
      → solid ≡ front_count true (between text p.start stop) → comments ≡ mark_count is_mark true (between text p.start stop) → blank + solid ≡ newline_count (between text p.start stop)
      → sums_of lines ≡ counts_with (row_in r).literate blank solid comments → IsUnderWay r (gone_on p lines stop)
  all_marked lines blank solid comments skipped way plain low clear solid_is comments_is whole sums =
      let next : ℕ = p.start + opener_place (openers_in r) (drop p.start text) in
      let cut : drop p.start seen ≡ between text p.start stop = cut_at text p.start stop low in
      let far : stop - p.start ≤ opener_place (openers_in r) (drop p.start text) = clear_place (openers_in r) (drop p.start text) (stop - p.start) (omega (arith, length-drop p.start text, inside))
      (λ k l. ap (begins_with_one (openers_in r)) (drop-drop k p.start text) ∙ clear (p.start + k) (omega arith) (omega (arith, l))) in
      let here : begun p.start ≡ true = let none : p.start - p.start ≡ 0 = omega arith in ap (λ n. blank_after true (take n (drop p.start text))) none in
      let lines_are : newline_count (between text p.start stop) ≡ line_count (drop p.start seen) = omega (arith, ap newline_count cut, ap flag (none_left low)) in
      marked_before r p skipped plain stop next inside (omega (arith, far, low)) same begun (λ at. front_marked is_mark (line_at at)) (λ at. mark_count is_mark true (drop at seen)) goes class_is
      marks_are (λ at. marks_few is_mark (drop at seen) true) lines blank solid comments way low refl here
      (solid_is ∙ ap (front_count true) (sym cut)) (comments_is ∙ ap (mark_count is_mark true) (sym cut)) (whole ∙ lines_are) sums

-- Lines up to the place `stop`, where one begins, are counted right by their fronts and marks, where no
-- opener stands before it and each marked front is that of a line comment.
pub marked_way : (r : Reading) (p : ReadSoFar) (is_mark : ℕ → Bool) (stop : ℕ) (lines : Sums) (blank solid comments : ℕ) → r.skips ≡ true → IsUnderWay r p → chain_of p.stack.items ≡ []
    → ((k : ℕ) → get_or r.text.now k 0 < 256) → AreMarks is_mark r.matchers.now.begins r.matchers.now.openers
    → p.start ≤ stop → stop ≤ length r.text.now → (p.start < stop → get_or r.text.now (stop - 1) 0 ≡ newline)
    → IsClear (openers_in r) r.text.now p.start stop → AreTold (row_in r) is_mark r.text.now p.start stop
    → solid ≡ front_count true (between r.text.now p.start stop) → comments ≡ mark_count is_mark true (between r.text.now p.start stop)
    → blank + solid ≡ newline_count (between r.text.now p.start stop) → sums_of lines ≡ counts_with (row_in r).literate blank solid comments
    → IsUnderWay r (gone_on p lines stop)
marked_way r p is_mark stop lines blank solid comments skipped way plain bytes marks low inside ends clear told solid_is comments_is whole sums =
    all_marked r p is_mark stop bytes marks inside ends told lines blank solid comments skipped way plain low clear solid_is comments_is whole sums
