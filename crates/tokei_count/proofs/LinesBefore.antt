-- The lines of a text that are counted up to a place, by their fronts. Each line is one more, and it
-- isn't blank where it has a front. So the counts of the bytes are those of the lines, one after
-- another, where no opener is before the place and each line is blank, or a comment by the mark at
-- its front, or what the language makes of a line with a front.
use Rattle.std.proofs.Common.{◌≡◌, ℕ, zero, suc, ◌+◌, ◌-◌, ◌<◌, ◌≤◌, ◌==◌, ◌&&◌, ◌||◌, not, cond, Bool, true, false}
use Rattle.std.proofs.Common.{List, [], ◌∷◌, length, take, drop, None, ◌⊎◌, inl, inr, refl, sym, ◌∙◌, ap, subst, zero-le, arith, length-drop}
use Rattle.std.proofs.lemmas.List.{drop-drop, drop_all, length-take-le}
use Rattle.std.proofs.lemmas.Bool.Decides.{Decides-eqb}
use Rattle.tokei_bytes.proofs.LineSums.{fronts_in_lines}
use Rattle.tokei_bytes.specs.Lines.{flag, front_count, newline_count, goes_on, line_count}
use Rattle.tokei_table.specs.Bytes.{is_blank, all_blank, newline}
use Rattle.tokei_parts.proofs.LineEnds.{below_or}
use Rattle.tokei_parts.proofs.Lines.{take-first, first_within}
use Rattle.tokei_parts.proofs.OpenersInLines.{opener_later}
use Rattle.tokei_parts.specs.Class.{class_of}
use Rattle.tokei_parts.specs.Glance.{opener_place}
use Rattle.tokei_embedding.specs.DocComments.{first_line}
use Rattle.tokei_parts.specs.ReadingOf.{row_in, openers_in}
use Rattle.tokei_parts.specs.Seen.{chain_of}
use Rattle.tokei_parts.specs.Tally.{one_of}
use Rattle.tokei_parts.specs.declared.class.Class.{Class}
use Rattle.tokei_parts.specs.declared.class.Class.TheVariants.{Blank, Code, Comment}
use Rattle.tokei_parts.specs.declared.reading.Reading.{Reading}
use Rattle.tokei_count.specs.NoComments.{counts_in, counts_with}
use Rattle.tokei_count.specs.UnderWay.{IsUnderWay}
use Rattle.tokei_count.specs.declared.text_reading.ReadSoFar.{ReadSoFar}
use Rattle.tokei_stats.specs.Seen.{sums_of}
use Rattle.tokei_stats.specs.Statistics.{Counts, no_lines, plus}
use Rattle.tokei_stats.specs.declared.sums.Sums.{Sums}
use Rattle.tokei_count.proofs.StepReading.{line_some}
use Rattle.tokei_count.proofs.TextReading.{counts_same}
use Rattle.tokei_count.proofs.UnderWay.{gone_on, none_more, same_sums, skipped_more}

-- what a line counts as, in a language that is literate or not, by whether it is blank
abbrev pub class_by : Bool → Bool → Class
class_by literate blank = cond blank Blank (cond literate Comment Code)

-- the same where a mark may tell that a line with a front is a comment
abbrev pub class_with : Bool → Bool → Bool → Class
class_with literate blank marked = cond blank Blank (cond literate Comment (cond marked Comment Code))

-- the class of a line that begins and ends plain
abbrev pub class_plain : Reading → List ℕ → Class
class_plain r line = class_of (row_in r) r.docs_are_comments (record { begun = None; bytes = line; ended = None })

-- a newline is blank
pub ends_blank : (b : ℕ) → (b == newline) ≡ true → is_blank b ≡ true
ends_blank b h = ap is_blank ((Decides-eqb b newline).0 h)

-- what can't be
pub never : false ≡ true → ⊥
never h = cc

bare_sum : (n : ℕ) → 0 + n ≡ n
bare_sum n = omega arith

-- the fronts of the first line, at most one, and of the others
pub fronts_line : (u : List ℕ) (blank : Bool) → front_count blank u ≡ cond blank (flag (not (all_blank (first_line u)))) 0 + front_count true (drop (length (first_line u)) u)
fronts_line [] true = refl
fronts_line [] false = refl
fronts_line (b ∷ t) blank = by_ends (b == newline) (is_blank b) blank refl (ends_blank b) (fronts_line t)
  where
    by_ends : (ends is blank : Bool) → is_blank b ≡ is → (ends ≡ true → is ≡ true)
        → ((c : Bool) → front_count c t ≡ cond c (flag (not (all_blank (first_line t)))) 0 + front_count true (drop (length (first_line t)) t))
        → flag (blank && not is) + front_count (ends || (blank && is)) t
        ≡ cond blank (flag (not (all_blank (cond ends (b ∷ []) (b ∷ first_line t))))) 0 + front_count true (drop (length (cond ends (b ∷ []) (b ∷ first_line t))) (b ∷ t))
    by_ends true false blank q e ih = absurd (never (e refl))
    by_ends true true true q e ih = ap (λ x. flag (not (x && true)) + front_count true t) (sym q)
    by_ends true true false q e ih = refl
    by_ends false true true q e ih = bare_sum (front_count true t) ∙ ih true ∙ ap (λ x. flag (not (x && all_blank (first_line t))) + front_count true (drop (length (first_line t)) t)) (sym q)
    by_ends false true false q e ih = bare_sum (front_count false t) ∙ ih false
    by_ends false false true q e ih = ap (λ n. 1 + n) (ih false ∙ bare_sum (front_count true (drop (length (first_line t)) t)))
        ∙ ap (λ x. flag (not (x && all_blank (first_line t))) + front_count true (drop (length (first_line t)) t)) (sym q)
    by_ends false false false q e ih = bare_sum (front_count false t) ∙ ih false

-- the first line is one
pub count_line : (u : List ℕ) → 0 < length u → line_count u ≡ 1 + line_count (drop (length (first_line u)) u)
count_line [] h = absurd (omega (arith, h))
count_line (b ∷ []) h = by_ends (b == newline)
  where
    by_ends : (ends : Bool) → flag ends + 0 + flag (not ends) ≡ 1 + line_count (drop (length (cond ends (b ∷ []) (b ∷ []))) (b ∷ []))
    by_ends true = refl
    by_ends false = refl
count_line (b ∷ c ∷ s) h = by_ends (b == newline) (count_line (c ∷ s) (omega arith))
  where
    by_ends : (ends : Bool) → line_count (c ∷ s) ≡ 1 + line_count (drop (length (first_line (c ∷ s))) (c ∷ s))
        → flag ends + newline_count (c ∷ s) + flag (goes_on (c ∷ s)) ≡ 1 + line_count (drop (length (cond ends (b ∷ []) (b ∷ first_line (c ∷ s)))) (b ∷ c ∷ s))
    by_ends true ih = omega arith
    by_ends false ih = omega (arith, ih)

-- the counts of a line and of those behind it
added : (literate blank marked : Bool) (lines one_more all : Counts) (before after fronts more marks others : ℕ)
    → one_more ≡ plus lines (one_of (class_with literate blank marked)) → before + fronts ≡ 1 + (after + more) → fronts ≡ flag (not blank) + more
    → marks ≡ flag (not blank && marked) + others → others ≤ more
    → all ≡ plus lines (counts_with literate before fronts marks) → all ≡ plus one_more (counts_with literate after more others)
added true true marked lines one_more all before after fronts more marks others e f g k l h =
    h ∙ counts_same _ _ (omega (arith, f, g, ap (λ (m : Counts). m.blanks) e)) (omega (arith, ap (λ (m : Counts). m.code) e)) (omega (arith, g, ap (λ (m : Counts). m.comments) e))
added true false marked lines one_more all before after fronts more marks others e f g k l h =
    h ∙ counts_same _ _ (omega (arith, f, g, ap (λ (m : Counts). m.blanks) e)) (omega (arith, ap (λ (m : Counts). m.code) e)) (omega (arith, g, ap (λ (m : Counts). m.comments) e))
added false true marked lines one_more all before after fronts more marks others e f g k l h =
    h ∙ counts_same _ _ (omega (arith, f, g, ap (λ (m : Counts). m.blanks) e)) (omega (arith, g, k, ap (λ (m : Counts). m.code) e)) (omega (arith, k, ap (λ (m : Counts). m.comments) e))
added false false true lines one_more all before after fronts more marks others e f g k l h =
    h ∙ counts_same _ _ (omega (arith, f, g, ap (λ (m : Counts). m.blanks) e)) (omega (arith, g, k, l, ap (λ (m : Counts). m.code) e)) (omega (arith, k, ap (λ (m : Counts). m.comments) e))
added false false false lines one_more all before after fronts more marks others e f g k l h =
    h ∙ counts_same _ _ (omega (arith, f, g, ap (λ (m : Counts). m.blanks) e)) (omega (arith, g, k, l, ap (λ (m : Counts). m.code) e)) (omega (arith, k, ap (λ (m : Counts). m.comments) e))

-- no lines at all
added_none : (literate : Bool) (lines all : Counts) (blank fronts marks : ℕ) → blank + fronts ≡ 0 → marks ≤ fronts → all ≡ plus lines (counts_with literate blank fronts marks) → all ≡ lines
added_none true lines all blank fronts marks none few h = h ∙ counts_same _ _ (omega (arith, none)) (omega arith) (omega (arith, none))
added_none false lines all blank fronts marks none few h = h ∙ counts_same _ _ (omega (arith, none)) (omega (arith, none)) (omega (arith, none, few))

-- Lines are counted up to the place `stop`, before the opener at `next`. `same` says that a line up to
-- there is one of the text, and `class_is` what such a line is, where it begins at a place of which
-- `begun` holds. `marked` says of such a place whether its line is marked, and `marks` how many are
-- from there on.
module _ (r : Reading) (p : ReadSoFar) (skipped : r.skips ≡ true) (plain : chain_of p.stack.items ≡ []) (stop next : ℕ) (inside : stop ≤ length r.text.now) (before : stop ≤ next)
    (same : (at : ℕ) → p.start ≤ at → at < stop → first_line (drop at (take stop r.text.now)) ≡ first_line (drop at r.text.now))
    (begun marked : ℕ → Bool) (marks : ℕ → ℕ)
    (goes : (at : ℕ) → p.start ≤ at → at < stop → begun at ≡ true → begun (at + length (first_line (drop at r.text.now))) ≡ true)
    (class_is : (at : ℕ) → p.start ≤ at → at < stop → begun at ≡ true
    → class_plain r (first_line (drop at r.text.now)) ≡ class_with (row_in r).literate (all_blank (first_line (drop at r.text.now))) (marked at))
    (marks_are : (at : ℕ) → p.start ≤ at → at < stop
    → marks at ≡ flag (not (all_blank (first_line (drop at r.text.now))) && marked at) + marks (at + length (first_line (drop at r.text.now))))
    (few_marks : (at : ℕ) → marks at ≤ front_count true (drop at (take stop r.text.now))) where
  abbrev text : List ℕ
  text = r.text.now

  abbrev seen : List ℕ
  seen = take stop text

  abbrev literate : Bool
  literate = (row_in r).literate

  seen_size : length seen ≡ stop
  seen_size = length-take-le stop text inside

  done : (lines all : Sums) (at blank : ℕ) → stop ≤ at → at ≤ stop → IsUnderWay r (gone_on p lines at)
      → blank + front_count true (drop at seen) ≡ line_count (drop at seen) → sums_of all ≡ plus (sums_of lines) (counts_with literate blank (front_count true (drop at seen)) (marks at))
      → IsUnderWay r (gone_on p all stop)
  done lines all at blank over within way told sums =
      let none : blank + front_count true (drop at seen) ≡ 0 = told ∙ ap line_count (drop_all at seen (omega (arith, over, seen_size))) in
      let equal : sums_of all ≡ sums_of lines = added_none literate (sums_of lines) (sums_of all) blank (front_count true (drop at seen)) (marks at) none (few_marks at) sums in
      let there : at ≡ stop = omega (arith, over, within) in
      subst (λ (s : Sums). IsUnderWay r (gone_on p s stop)) (same_sums lines all (sym equal))
      (subst (λ k. IsUnderWay r (gone_on p lines k)) there way)

  -- what was counted from the place on is right, if it is so from a later place on
  module _ (all : Sums) (lines : Sums) (at blank : ℕ) (low : p.start ≤ at) (within : at ≤ stop) (here : begun at ≡ true) (way : IsUnderWay r (gone_on p lines at))
      (known : next ≡ at + opener_place (openers_in r) (drop at text))
      (told : blank + front_count true (drop at seen) ≡ line_count (drop at seen))
      (sums : sums_of all ≡ plus (sums_of lines) (counts_with literate blank (front_count true (drop at seen)) (marks at))) where
    abbrev Later : Type 0
    Later = (mid : Sums) (end left : ℕ) → at < end → end ≤ stop → begun end ≡ true → IsUnderWay r (gone_on p mid end) → next ≡ end + opener_place (openers_in r) (drop end text)
        → left + front_count true (drop end seen) ≡ line_count (drop end seen) → sums_of all ≡ plus (sums_of mid) (counts_with literate left (front_count true (drop end seen)) (marks end))
        → IsUnderWay r (gone_on p all stop)

    by_line : Later → at < stop → IsUnderWay r (gone_on p all stop)
    by_line later some =
        let u : List ℕ = drop at text in
        let v : List ℕ = drop at seen in
        let line : List ℕ = first_line u in
        let end : ℕ = at + length line in
        let is_blank_line : Bool = all_blank line in
        let class : Class = class_with literate is_blank_line (marked at) in
        let one : Counts = one_of class in
        let mid : Sums = record { blanks = lines.blanks + one.blanks; code = lines.code + one.code; comments = lines.comments + one.comments } in
        let line_is : first_line v ≡ line = same at low some in
        let short : end ≤ stop = omega (arith, ap (λ (w : List ℕ). length w) line_is, first_within v, length-drop at seen, seen_size, within) in
        let size : end - at ≡ length line = omega arith in
        let bytes : take (end - at) u ≡ line = ap (λ k. take k u) size ∙ take-first u in
        let is_class : class ≡ class_plain r (take (end - at) u) = sym (class_is at low some here) ∙ ap (class_plain r) (sym bytes) in
        let some_text : at < length text = omega (arith, some, inside) in
        let gone : IsUnderWay r (gone_on p mid end) = skipped_more r p lines mid at end next class skipped way refl some_text plain refl known (omega (arith, short, before)) is_class in
        let there : drop (length line) v ≡ drop end seen = drop-drop (length line) at seen in
        let left : ℕ = line_count (drop end seen) - front_count true (drop end seen) in
        let left_is : left + front_count true (drop end seen) ≡ line_count (drop end seen) = omega (arith, fronts_in_lines (drop end seen)) in
        let lines_are : line_count v ≡ 1 + line_count (drop end seen) =
        count_line v (omega (arith, length-drop at seen, seen_size, some)) ∙ ap (λ (w : List ℕ). 1 + line_count (drop (length w) v)) line_is ∙ ap (λ w. 1 + line_count w) there in
        let fronts_are : front_count true v ≡ flag (not is_blank_line) + front_count true (drop end seen) =
        fronts_line v true ∙ ap (λ (w : List ℕ). flag (not (all_blank w)) + front_count true (drop (length w) v)) line_is
        ∙ ap (λ w. flag (not is_blank_line) + front_count true w) there in
        let whole : blank + front_count true v ≡ 1 + (left + front_count true (drop end seen)) = omega (arith, told, lines_are, left_is) in
        later mid end left (omega (arith, line_some text at some_text)) short (goes at low some here) gone
        (opener_later (openers_in r) text at end next (omega arith) (omega (arith, short, before)) known) left_is
        (added literate is_blank_line (marked at) (sums_of lines) (sums_of mid) (sums_of all) blank left (front_count true v) (front_count true (drop end seen)) (marks at) (marks end) refl
        whole fronts_are (marks_are at low some) (few_marks end) sums)

    by_place : Later → (at < stop) ⊎ (stop ≤ at) → IsUnderWay r (gone_on p all stop)
    by_place later (inl some) = by_line later some
    by_place later (inr over) = done lines all at blank over within way told sums

  by_lines : (n : ℕ) (lines all : Sums) (at blank : ℕ) → stop - at ≤ n → p.start ≤ at → at ≤ stop → begun at ≡ true → IsUnderWay r (gone_on p lines at)
      → next ≡ at + opener_place (openers_in r) (drop at text)
      → blank + front_count true (drop at seen) ≡ line_count (drop at seen) → sums_of all ≡ plus (sums_of lines) (counts_with literate blank (front_count true (drop at seen)) (marks at))
      → IsUnderWay r (gone_on p all stop)
  by_lines zero lines all at blank few low within here way known told sums = done lines all at blank (omega (arith, few)) within way told sums
  by_lines (suc n) lines all at blank few low within here way known told sums =
      by_place all lines at blank low within here way known told sums
      (λ mid end left later short begins gone known' told' sums'. by_lines n mid all end left (omega (arith, few, later)) (omega (arith, low, later)) short begins gone known' told' sums')
      (below_or at stop)

  none_before : (literate : Bool) (blank solid comments : ℕ) (all : Counts) → all ≡ counts_with literate blank solid comments → all ≡ plus no_lines (counts_with literate blank solid comments)
  none_before true blank solid comments all e = e ∙ counts_same _ _ (omega arith) (omega arith) (omega arith)
  none_before false blank solid comments all e = e ∙ counts_same _ _ (omega arith) (omega arith) (omega arith)

  -- all lines up to the place, by what was counted of them
  pub marked_before : (all : Sums) (blank solid comments : ℕ) → IsUnderWay r p → p.start ≤ stop → next ≡ p.start + opener_place (openers_in r) (drop p.start text) → begun p.start ≡ true
      → solid ≡ front_count true (drop p.start seen) → comments ≡ marks p.start → blank + solid ≡ line_count (drop p.start seen) → sums_of all ≡ counts_with literate blank solid comments
      → IsUnderWay r (gone_on p all stop)
  marked_before all blank solid comments way within known here is marks_is whole sums =
      by_lines (stop - p.start) (record { blanks = 0; code = 0; comments = 0 }) all p.start blank (omega arith) (omega arith) within here
      (none_more r p way (record { blanks = 0; code = 0; comments = 0 }) refl) known (omega (arith, is, whole))
      (none_before literate blank (front_count true (drop p.start seen)) (marks p.start) (sums_of all)
      (sums ∙ ap (λ n. counts_with literate blank n comments) is ∙ ap (counts_with literate blank (front_count true (drop p.start seen))) marks_is))

no_mark : (x : Bool) → 0 ≡ flag (x && false) + 0
no_mark true = refl
no_mark false = refl

no_marks : (literate : Bool) (blank solid : ℕ) → counts_in literate blank solid ≡ counts_with literate blank solid 0
no_marks true blank solid = refl
no_marks false blank solid = counts_same _ _ refl (omega arith) refl

-- the same where no line is marked
module _ (r : Reading) (p : ReadSoFar) (skipped : r.skips ≡ true) (plain : chain_of p.stack.items ≡ []) (stop next : ℕ) (inside : stop ≤ length r.text.now) (before : stop ≤ next)
    (same : (at : ℕ) → p.start ≤ at → at < stop → first_line (drop at (take stop r.text.now)) ≡ first_line (drop at r.text.now))
    (class_is : (at : ℕ) → p.start ≤ at → at < stop → class_plain r (first_line (drop at r.text.now)) ≡ class_by (row_in r).literate (all_blank (first_line (drop at r.text.now)))) where
  -- all lines up to the place, by what was counted of them
  pub all_before : (all : Sums) (blank solid : ℕ) → IsUnderWay r p → p.start ≤ stop → next ≡ p.start + opener_place (openers_in r) (drop p.start r.text.now)
      → solid ≡ front_count true (drop p.start (take stop r.text.now)) → blank + solid ≡ line_count (drop p.start (take stop r.text.now)) → sums_of all ≡ counts_in (row_in r).literate blank solid
      → IsUnderWay r (gone_on p all stop)
  all_before all blank solid way within known is whole sums =
      marked_before r p skipped plain stop next inside before same (λ at. true) (λ at. false) (λ at. 0) (λ at low some here. refl) (λ at low some here. class_is at low some)
      (λ at low some. no_mark (not (all_blank (first_line (drop at r.text.now))))) (λ at. zero-le)
      all blank solid 0 way within known refl is refl whole (sums ∙ no_marks (row_in r).literate blank solid)
