-- Lines of bytes at which no choice can begin, and in a literate language lines of any bytes, are
-- counted by their fronts: such a line is blank, or code, and a comment in a literate language.
use Rattle.std.proofs.Common.{◌≡◌, ℕ, zero, suc, ◌+◌, ◌-◌, ◌<◌, ◌≤◌, ◌==◌, cond, Bool, true, false, List, [], ◌∷◌, length, take, drop, get_or, None, refl, sym, ◌∙◌, ap, subst, arith, length-drop}
use Rattle.std.specs.Prelude.{⊤}
use Rattle.std.proofs.lemmas.Bool.Decides.{Decides-eqb}
use Rattle.std.proofs.lemmas.List.{drop-take, get_or-drop, get_or-take, length-take-le}
use Rattle.tokei_bytes.specs.Lines.{front_count, line_count}
use Rattle.tokei_table.specs.Bytes.{all_blank, is_blank, newline, trim_start}
use Rattle.tokei_parts.proofs.CodeHeads.{blank_part, code_head, head_not_blank, literate_head, no_head}
use Rattle.tokei_parts.proofs.Lines.{take-first, first_within}
use Rattle.tokei_parts.specs.Class.{class_of}
use Rattle.tokei_parts.specs.CodeHeads.{FrontBeginsNone, HasCodeHead}
use Rattle.tokei_parts.specs.Glance.{opener_place}
use Rattle.tokei_embedding.specs.DocComments.{first_line}
use Rattle.tokei_parts.specs.Matchers.{Matchers}
use Rattle.tokei_parts.specs.PlainBytes.{BeginsNone}
use Rattle.tokei_parts.specs.ReadingOf.{row_in, openers_in}
use Rattle.tokei_parts.specs.Seen.{chain_of}
use Rattle.tokei_parts.specs.declared.class.Class.TheVariants.{Code, Comment}
use Rattle.tokei_parts.specs.declared.reading.Reading.{Reading}
use Rattle.tokei_count.specs.NoComments.{counts_in}
use Rattle.tokei_count.specs.UnderWay.{IsUnderWay}
use Rattle.tokei_count.specs.declared.text_reading.ReadSoFar.{ReadSoFar}
use Rattle.tokei_stats.specs.Seen.{sums_of}
use Rattle.tokei_stats.specs.declared.sums.Sums.{Sums}
use Rattle.tokei_count.proofs.LinesBefore.{class_by, class_plain, all_before}
use Rattle.tokei_count.proofs.StepReading.{line_some}
use Rattle.tokei_count.proofs.UnderWay.{gone_on}

-- no choice can begin at any of the bytes
abbrev AreClear : Matchers → List ℕ → Type 0
AreClear m [] = ⊤
AreClear m (b ∷ t) = BeginsNone m b × AreClear m t

all_clear : (m : Matchers) (u : List ℕ) → ((k : ℕ) → k < length u → BeginsNone m (get_or u k 0)) → AreClear m u
all_clear m [] each = tt
all_clear m (b ∷ t) each = (each 0 (omega arith), all_clear m t (λ k l. each (suc k) (omega arith)))

front_clear : (m : Matchers) (u : List ℕ) → AreClear m u → AreClear m (trim_start u)
front_clear m [] clear = tt
front_clear m (b ∷ t) clear = by_test (is_blank b) (front_clear m t clear.1)
  where
    by_test : (x : Bool) → AreClear m (trim_start t) → AreClear m (cond x (trim_start t) (b ∷ t))
    by_test true rest = rest
    by_test false rest = clear

first_clear : (m : Matchers) (u : List ℕ) → 0 < length u → AreClear m u → FrontBeginsNone m u
first_clear m [] some clear = absurd (omega (arith, some))
first_clear m (b ∷ t) some clear = clear.0

-- what a line is at whose head no choice can begin
pub headed_class : (r : Reading) (line : List ℕ) → HasCodeHead r.matchers.now line → class_plain r line ≡ class_by (row_in r).literate (all_blank line)
headed_class r line head =
    let solid : all_blank line ≡ false = head_not_blank r.matchers.now line (trim_start line) refl head.head in
    by_literate (row_in r).literate refl head ∙ sym (ap (class_by (row_in r).literate) solid)
  where
    by_literate : (x : Bool) → (row_in r).literate ≡ x → HasCodeHead r.matchers.now line → class_plain r line ≡ cond (row_in r).literate Comment Code
    by_literate true is head = literate_head (row_in r) r.docs_are_comments r.matchers.now line None is head ∙ sym (ap (λ y. cond y Comment Code) is)
    by_literate false is head = code_head (row_in r) r.sound r.matchers.now r.matched r.docs_are_comments None is refl line head ∙ sym (ap (λ y. cond y Comment Code) is)

-- what a line is at whose bytes no choice can begin
clear_class : (r : Reading) (line : List ℕ) → 0 < length line → AreClear r.matchers.now line → class_plain r line ≡ class_by (row_in r).literate (all_blank line)
clear_class r line some clear = by_front (trim_start line) refl (front_clear r.matchers.now line clear)
  where
    by_front : (v : List ℕ) → trim_start line ≡ v → AreClear r.matchers.now v → class_plain r line ≡ class_by (row_in r).literate (all_blank line)
    by_front [] is none = blank_part (row_in r) r.docs_are_comments line None is ∙ sym (ap (class_by (row_in r).literate) (no_head line is))
    by_front (b ∷ w) is none =
        let head : HasCodeHead r.matchers.now line = record { first = first_clear r.matchers.now line some clear; head = subst (FrontBeginsNone r.matchers.now) (sym is) none.0 } in
        headed_class r line head

-- what a line is in a literate language, whatever bytes it has
literate_class : (r : Reading) (line : List ℕ) → (row_in r).literate ≡ true → class_plain r line ≡ class_by (row_in r).literate (all_blank line)
unfolding class_of
literate_class r line is = rw is refl

-- what a line is that is told by its front alone: no choice can begin at its bytes, unless the language
-- is literate
told_class : (r : Reading) (line : List ℕ) → 0 < length line → ((row_in r).literate ≡ false → AreClear r.matchers.now line)
    → class_plain r line ≡ class_by (row_in r).literate (all_blank line)
told_class r line some clear = by_literate (row_in r).literate refl
  where
    by_literate : (x : Bool) → (row_in r).literate ≡ x → class_plain r line ≡ class_by (row_in r).literate (all_blank line)
    by_literate true is = literate_class r line is
    by_literate false is = clear_class r line some (clear is)

never : false ≡ true → ⊥
never h = cc

-- a text that is cut behind a newline has the same first line
cut_line : (u : List ℕ) (k : ℕ) → k < length u → get_or u k 0 ≡ newline → first_line (take (suc k) u) ≡ first_line u
cut_line [] k within is = absurd (omega (arith, within))
cut_line (b ∷ t) k within is = by_byte (b == newline) refl k within is (λ j w i. cut_line t j w i)
  where
    by_byte : (x : Bool) → (b == newline) ≡ x → (j : ℕ) → j < length (b ∷ t) → get_or (b ∷ t) j 0 ≡ newline
        → ((i : ℕ) → i < length t → get_or t i 0 ≡ newline → first_line (take (suc i) t) ≡ first_line t)
        → cond x (b ∷ []) (b ∷ first_line (take j t)) ≡ cond x (b ∷ []) (b ∷ first_line t)
    by_byte true e j w i rest = refl
    by_byte false e zero w i rest = let yes : (b == newline) ≡ true = (Decides-eqb b newline).1 i in let no : false ≡ true = sym e ∙ yes in absurd (never no)
    by_byte false e (suc j) w i rest = ap (λ s. b ∷ s) (rest j (omega (arith, w)) i)

-- so has what is left of a text that is cut behind a newline, from each place on
pub cut_lines : (text : List ℕ) (stop at : ℕ) → stop ≤ length text → get_or text (stop - 1) 0 ≡ newline → at < stop → first_line (drop at (take stop text)) ≡ first_line (drop at text)
cut_lines text stop at within ends below =
    let k : ℕ = stop - 1 - at in
    let cut : drop at (take stop text) ≡ take (suc k) (drop at text) = ap (λ n. drop at (take n text)) (omega (arith, below)) ∙ drop-take at (suc k) text in
    let last : get_or (drop at text) k 0 ≡ newline = get_or-drop at text k 0 ∙ ap (λ n. get_or text n 0) (omega (arith, below)) ∙ ends in
    ap first_line cut ∙ cut_line (drop at text) k (omega (arith, length-drop at text, below, within)) last

-- where the last newline of a stretch is
pub newline_at : (text : List ℕ) (start clear last : ℕ) → start ≤ clear → clear ≤ length text → last < length (take (clear - start) (drop start text))
    → (get_or (take (clear - start) (drop start text)) last 0 == newline) ≡ true → (start + last + 1 ≤ clear) × (get_or text (start + last) 0 ≡ newline)
newline_at text start clear last low within below is =
    let size : length (take (clear - start) (drop start text)) ≡ clear - start = length-take-le (clear - start) (drop start text) (omega (arith, length-drop start text, low, within)) in
    let near : last < clear - start = omega (arith, below, size) in
    let same : get_or (take (clear - start) (drop start text)) last 0 ≡ get_or text (start + last) 0 = get_or-take (clear - start) (drop start text) last 0 near ∙ get_or-drop start text last 0 in
    (omega (arith, near, low), sym same ∙ (Decides-eqb (get_or (take (clear - start) (drop start text)) last 0) newline).0 is)

-- the bytes up to that newline
module _ (text : List ℕ) (start clear last : ℕ) (low : start ≤ clear) (within : clear ≤ length text) (below : last < length (take (clear - start) (drop start text)))
    (is : (get_or (take (clear - start) (drop start text)) last 0 == newline) ≡ true) where
  pub newline_taken : start + last + 1 ≡ length (take (start + last + 1) text)
  newline_taken = let short = newline_at text start clear last low within below is in sym (length-take-le (start + last + 1) text (omega (arith, short.0, within)))

  pub start_taken : start ≤ length (take (start + last + 1) text)
  start_taken = omega (arith, newline_taken)

-- The lines of the text from the place on whose last byte, before `stop`, is a newline. Unless the
-- language is literate, no choice can begin at their bytes.
module _ (r : Reading) (p : ReadSoFar) (told stop : ℕ) (some : p.start < stop) (high : stop ≤ told) (within : told ≤ length r.text.now)
    (ends : get_or r.text.now (stop - 1) 0 ≡ newline)
    (none : (row_in r).literate ≡ false → (k : ℕ) → p.start ≤ k → k < told → BeginsNone r.matchers.now (get_or r.text.now k 0)) where
  abbrev text : List ℕ
  text = r.text.now

  same : (at : ℕ) → p.start ≤ at → at < stop → first_line (drop at (take stop text)) ≡ first_line (drop at text)
  same at low below = cut_lines text stop at (omega (arith, high, within)) ends below

  class_is : (at : ℕ) → p.start ≤ at → at < stop → class_plain r (first_line (drop at text)) ≡ class_by (row_in r).literate (all_blank (first_line (drop at text)))
  class_is at low below =
      let u : List ℕ = drop at text in
      let line : List ℕ = first_line u in
      let cut : List ℕ = drop at (take stop text) in
      let short : at + length line ≤ stop = omega (arith, ap (λ (w : List ℕ). length w) (same at low below), first_within cut, length-drop at (take stop text), length_seen, below) in
      let byte : (row_in r).literate ≡ false → (k : ℕ) → k < length line → BeginsNone r.matchers.now (get_or line k 0) = λ plain k l.
      let there : get_or line k 0 ≡ get_or text (at + k) 0 = ap (λ (w : List ℕ). get_or w k 0) (sym (take-first u)) ∙ get_or-take (length line) u k 0 l ∙ get_or-drop at text k 0 in
      subst (BeginsNone r.matchers.now) (sym there) (none plain (at + k) (omega (arith, low)) (omega (arith, l, short, high))) in
      told_class r line (line_some text at (omega (arith, below, high, within))) (λ plain. all_clear r.matchers.now line (byte plain))
    where
      length_seen : length (take stop text) ≡ stop
      length_seen = length-take-le stop text (omega (arith, high, within))

  pub clear_lines : r.skips ≡ true → chain_of p.stack.items ≡ [] → (next : ℕ) → stop ≤ next → next ≡ p.start + opener_place (openers_in r) (drop p.start text)
      → (all : Sums) (blank solid : ℕ) → IsUnderWay r p → solid ≡ front_count true (drop p.start (take stop text)) → blank + solid ≡ line_count (drop p.start (take stop text))
      → sums_of all ≡ counts_in (row_in r).literate blank solid → IsUnderWay r (gone_on p all stop)
  clear_lines skipped plain next before known all blank solid way is whole sums =
      all_before r p skipped plain stop next (omega (arith, high, within)) before same class_is all blank solid way (omega (arith, some)) known is whole sums

-- the same by what the searches find
pub clear_way : (r : Reading) (p : ReadSoFar) (next told last blank solid : ℕ) (lines : Sums) → r.skips ≡ true → IsUnderWay r p → chain_of p.stack.items ≡ []
    → next ≡ p.start + opener_place (openers_in r) (drop p.start r.text.now) → next ≤ length r.text.now → p.start ≤ told → told ≤ next
    → ((row_in r).literate ≡ false → (k : ℕ) → p.start ≤ k → k < told → BeginsNone r.matchers.now (get_or r.text.now k 0))
    → last < length (take (told - p.start) (drop p.start r.text.now)) → (get_or (take (told - p.start) (drop p.start r.text.now)) last 0 == newline) ≡ true
    → solid ≡ front_count true (drop p.start (take (p.start + last + 1) r.text.now)) → blank + solid ≡ line_count (drop p.start (take (p.start + last + 1) r.text.now))
    → sums_of lines ≡ counts_in (row_in r).literate blank solid → IsUnderWay r (gone_on p lines (p.start + last + 1))
clear_way r p next told last blank solid lines skipped way plain known within low high none below is solid_is whole sums =
    let found = newline_at r.text.now p.start told last low (omega (arith, high, within)) below is in
    let ends : get_or r.text.now (p.start + last + 1 - 1) 0 ≡ newline = ap (λ n. get_or r.text.now n 0) (omega arith) ∙ found.1 in
    clear_lines r p told (p.start + last + 1) (omega arith) found.0 (omega (arith, high, within)) ends none skipped plain next (omega (arith, found.0, high)) known lines blank solid way
    solid_is whole sums
