-- Lines within an item, in which each choice takes its byte, are counted by their newlines: each is of
-- the class that the item gives it, whatever its bytes.
use Rattle.std.proofs.Common.{◌≡◌, ℕ, zero, suc, ◌+◌, ◌-◌, ◌<◌, ◌≤◌, ◌==◌, not, true, false, List, length, take, drop, get_or, Some, ◌⊎◌, inl, inr, refl, sym, ◌∙◌, ap, subst, arith, length-drop}
use Rattle.std.proofs.lemmas.Bool.Decides.{Decides-eqb}
use Rattle.std.proofs.lemmas.List.{drop-drop, drop_all, get_or-drop, get_or-take, length-take-le}
use Rattle.tokei_bytes.proofs.LineSums.{last_tells}
use Rattle.tokei_bytes.specs.Lines.{flag, goes_on, line_count, newline_count}
use Rattle.tokei_table.specs.Bytes.{newline}
use Rattle.tokei_parts.proofs.LineEnds.{below_or}
use Rattle.tokei_parts.proofs.Lines.{first_within}
use Rattle.tokei_parts.specs.Calm.{IsCalm}
use Rattle.tokei_parts.specs.Class.{class_of}
use Rattle.tokei_embedding.specs.DocComments.{first_line}
use Rattle.tokei_parts.specs.Modes.{innermost}
use Rattle.tokei_parts.specs.ReadingOf.{row_in}
use Rattle.tokei_parts.specs.Seen.{chain_of}
use Rattle.tokei_parts.specs.SeenChoices.{mode_of}
use Rattle.tokei_parts.specs.Tally.{one_of}
use Rattle.tokei_parts.specs.declared.class.Class.{Class}
use Rattle.tokei_parts.specs.declared.class.Class.TheVariants.{Blank, Code, Comment}
use Rattle.tokei_parts.specs.declared.items.Enclosure as CodeEnclosure
use Rattle.tokei_parts.specs.declared.reading.Reading.{Reading}
use Rattle.tokei_count.specs.ClassLines.{lines_in}
use Rattle.tokei_count.specs.UnderWay.{IsUnderWay}
use Rattle.tokei_count.specs.declared.text_reading.ReadSoFar.{ReadSoFar}
use Rattle.tokei_stats.specs.Seen.{sums_of}
use Rattle.tokei_stats.specs.Statistics.{Counts, no_lines, plus}
use Rattle.tokei_stats.specs.declared.sums.Sums.{Sums}
use Rattle.tokei_count.proofs.CalmLines.{calm_more, gone_within, none_within}
use Rattle.tokei_count.proofs.ClearLines.{cut_lines, newline_at}
use Rattle.tokei_count.proofs.LinesBefore.{count_line}
use Rattle.tokei_count.proofs.StepReading.{line_some}
use Rattle.tokei_count.proofs.TextReading.{counts_same}
use Rattle.tokei_count.proofs.UnderWay.{counted_on, same_sums, sums_with}

-- the counts of a line and of those behind it
added : (class : Class) (lines one_more all : Counts) (before after : ℕ) → one_more ≡ plus lines (one_of class) → before ≡ 1 + after
    → all ≡ plus lines (lines_in class before) → all ≡ plus one_more (lines_in class after)
added Blank lines one_more all before after e f h =
    h ∙ counts_same _ _ (omega (arith, f, ap (λ (m : Counts). m.blanks) e)) (omega (arith, ap (λ (m : Counts). m.code) e)) (omega (arith, ap (λ (m : Counts). m.comments) e))
added Code lines one_more all before after e f h =
    h ∙ counts_same _ _ (omega (arith, ap (λ (m : Counts). m.blanks) e)) (omega (arith, f, ap (λ (m : Counts). m.code) e)) (omega (arith, ap (λ (m : Counts). m.comments) e))
added Comment lines one_more all before after e f h =
    h ∙ counts_same _ _ (omega (arith, ap (λ (m : Counts). m.blanks) e)) (omega (arith, ap (λ (m : Counts). m.code) e)) (omega (arith, f, ap (λ (m : Counts). m.comments) e))

-- no lines at all
added_none : (class : Class) (lines all : Counts) (number : ℕ) → number ≡ 0 → all ≡ plus lines (lines_in class number) → all ≡ lines
added_none Blank lines all number none h = h ∙ counts_same _ _ (omega (arith, none)) (omega arith) (omega arith)
added_none Code lines all number none h = h ∙ counts_same _ _ (omega arith) (omega (arith, none)) (omega arith)
added_none Comment lines all number none h = h ∙ counts_same _ _ (omega arith) (omega arith) (omega (arith, none))

none_before : (class : Class) (number : ℕ) (all : Counts) → all ≡ lines_in class number → all ≡ plus no_lines (lines_in class number)
none_before Blank number all e = e ∙ counts_same _ _ (omega arith) (omega arith) (omega arith)
none_before Code number all e = e ∙ counts_same _ _ (omega arith) (omega arith) (omega arith)
none_before Comment number all e = e ∙ counts_same _ _ (omega arith) (omega arith) (omega arith)

-- The lines of the text from the place on, within the item, whose last byte, before `stop`, is a newline.
module _ (r : Reading) (p : ReadSoFar) (item : CodeEnclosure.Enclosure) (class : Class) (stop to : ℕ) (inside : to ≤ length r.text.now) (before : stop ≤ to)
    (ends : get_or r.text.now (stop - 1) 0 ≡ newline) (within : innermost (chain_of p.stack.items) ≡ mode_of (Some item)) (calm : IsCalm (row_in r) item r.text.now p.start to)
    (class_is : (bytes : List ℕ) → class ≡ class_of (row_in r) r.docs_are_comments (record { begun = mode_of (Some item); bytes = bytes; ended = mode_of (Some item) })) where
  abbrev text : List ℕ
  text = r.text.now

  abbrev seen : List ℕ
  seen = take stop text

  seen_size : length seen ≡ stop
  seen_size = length-take-le stop text (omega (arith, inside, before))

  done : (lines all : Sums) (at : ℕ) → stop ≤ at → at ≤ stop → IsUnderWay r (gone_within p lines at)
      → sums_of all ≡ plus (sums_of lines) (lines_in class (line_count (drop at seen))) → IsUnderWay r (gone_within p all stop)
  done lines all at over low way sums =
      let none : line_count (drop at seen) ≡ 0 = ap line_count (drop_all at seen (omega (arith, over, seen_size))) in
      let equal : sums_of all ≡ sums_of lines = added_none class (sums_of lines) (sums_of all) (line_count (drop at seen)) none sums in
      let there : at ≡ stop = omega (arith, over, low) in
      subst (λ (s : Sums). IsUnderWay r (gone_within p s stop)) (same_sums lines all (sym equal))
      (subst (λ k. IsUnderWay r (gone_within p lines k)) there way)

  -- what was counted from the place on is right, if it is so from a later place on
  module _ (all lines : Sums) (at : ℕ) (low : p.start ≤ at) (high : at ≤ stop) (way : IsUnderWay r (gone_within p lines at))
      (sums : sums_of all ≡ plus (sums_of lines) (lines_in class (line_count (drop at seen)))) where
    abbrev Later : Type 0
    Later = (mid : Sums) (end : ℕ) → at < end → end ≤ stop → IsUnderWay r (gone_within p mid end)
        → sums_of all ≡ plus (sums_of mid) (lines_in class (line_count (drop end seen))) → IsUnderWay r (gone_within p all stop)

    by_line : Later → at < stop → IsUnderWay r (gone_within p all stop)
    by_line later some =
        let v : List ℕ = drop at seen in
        let line : List ℕ = first_line (drop at text) in
        let end : ℕ = at + length line in
        let one : Counts = one_of class in
        let mid : Sums = record { blanks = lines.blanks + one.blanks; code = lines.code + one.code; comments = lines.comments + one.comments } in
        let line_is : first_line v ≡ line = cut_lines text stop at (omega (arith, inside, before)) ends some in
        let short : end ≤ stop = omega (arith, ap (λ (w : List ℕ). length w) line_is, first_within v, length-drop at seen, seen_size, high) in
        let some_text : at < length text = omega (arith, some, before, inside) in
        let gone : IsUnderWay r (gone_within p mid end) =
        calm_more r p item lines mid at end to class low way refl some_text within refl (omega (arith, short, before)) (λ k l h. calm k (omega (arith, low, l)) h) class_is in
        let there : drop (length line) v ≡ drop end seen = drop-drop (length line) at seen in
        let lines_are : line_count v ≡ 1 + line_count (drop end seen) =
        count_line v (omega (arith, length-drop at seen, seen_size, some)) ∙ ap (λ (w : List ℕ). 1 + line_count (drop (length w) v)) line_is ∙ ap (λ w. 1 + line_count w) there in
        later mid end (omega (arith, line_some text at some_text)) short gone (added class (sums_of lines) (sums_of mid) (sums_of all) (line_count v) (line_count (drop end seen)) refl lines_are sums)

    by_place : Later → (at < stop) ⊎ (stop ≤ at) → IsUnderWay r (gone_within p all stop)
    by_place later (inl some) = by_line later some
    by_place later (inr over) = done lines all at over high way sums

  by_lines : (n : ℕ) (lines all : Sums) (at : ℕ) → stop - at ≤ n → p.start ≤ at → at ≤ stop → IsUnderWay r (gone_within p lines at)
      → sums_of all ≡ plus (sums_of lines) (lines_in class (line_count (drop at seen))) → IsUnderWay r (gone_within p all stop)
  by_lines zero lines all at few low high way sums = done lines all at (omega (arith, few)) high way sums
  by_lines (suc n) lines all at few low high way sums =
      by_place all lines at low high way sums
      (λ mid end later short gone sums'. by_lines n mid all end (omega (arith, few, later)) (omega (arith, low, later)) short gone sums')
      (below_or at stop)

  -- all of them
  pub all_within : (all : Sums) → IsUnderWay r p → p.start ≤ stop → sums_of all ≡ lines_in class (line_count (drop p.start seen)) → IsUnderWay r (gone_within p all stop)
  all_within all way low sums =
      by_lines (stop - p.start) (record { blanks = 0; code = 0; comments = 0 }) all p.start (omega arith) (omega arith) low
      (none_within r p way (record { blanks = 0; code = 0; comments = 0 }) refl) (none_before class (line_count (drop p.start seen)) (sums_of all) sums)

-- where a text's last byte is a newline, it has as many lines
lines_of_newlines : (u : List ℕ) (k : ℕ) → length u ≡ suc k → get_or u k 0 ≡ newline → newline_count u ≡ line_count u
lines_of_newlines u k size ends =
    let closed : goes_on u ≡ false = last_tells u k size ∙ ap not ((Decides-eqb (get_or u k 0) newline).1 ends) in
    omega (arith, ap flag closed)

-- the same by what the search for the last newline finds
pub way_within : (r : Reading) (p : ReadSoFar) (item : CodeEnclosure.Enclosure) (class : Class) (to last number : ℕ) (lines : Sums)
    → IsUnderWay r p → innermost (chain_of p.stack.items) ≡ mode_of (Some item)
    → IsCalm (row_in r) item r.text.now p.start to → p.start ≤ to → to ≤ length r.text.now
    → last < length (take (to - p.start) (drop p.start r.text.now)) → (get_or (take (to - p.start) (drop p.start r.text.now)) last 0 == newline) ≡ true
    → number ≡ newline_count (drop p.start (take (p.start + last + 1) r.text.now)) → sums_of lines ≡ lines_in class number
    → ((bytes : List ℕ) → class ≡ class_of (row_in r) r.docs_are_comments (record { begun = mode_of (Some item); bytes = bytes; ended = mode_of (Some item) }))
    → IsUnderWay r (gone_within p lines (p.start + last + 1))
way_within r p item class to last number lines way within calm low inside below is number_is sums class_is =
    let found = newline_at r.text.now p.start to last low inside below is in
    let ends : get_or r.text.now (p.start + last + 1 - 1) 0 ≡ newline = ap (λ n. get_or r.text.now n 0) (omega arith) ∙ found.1 in
    let seen : List ℕ = take (p.start + last + 1) r.text.now in
    let stretch : List ℕ = drop p.start seen in
    let long : length stretch ≡ suc last = omega (arith, length-drop p.start seen, length-take-le (p.start + last + 1) r.text.now (omega (arith, found.0, inside))) in
    let final : get_or stretch last 0 ≡ newline = get_or-drop p.start seen last 0 ∙ get_or-take (p.start + last + 1) r.text.now (p.start + last) 0 (omega arith) ∙ found.1 in
    let lines_are : number ≡ line_count stretch = number_is ∙ lines_of_newlines stretch last long final in
    all_within r p item class (p.start + last + 1) to inside found.0 ends within calm class_is lines way (omega arith) (sums ∙ ap (lines_in class) lines_are)

-- with the counts that were added up
pub counted_within : (r : Reading) (p : ReadSoFar) (own lines : Sums) (at : ℕ) → sums_of own ≡ sums_of (sums_with p.own lines) → IsUnderWay r (gone_within p lines at)
    → IsUnderWay r (record {
      own = own;
      blobs = p.blobs;
      own_steps = p.own_steps + (at - p.start);
      inner_steps = p.inner_steps;
      behind_child = p.behind_child;
      start = at;
      stack = p.stack;
      search = p.search;
      child = p.child;
    })
counted_within r p own lines at sums way =
    let stepped : ReadSoFar = record {
      own = p.own;
      blobs = p.blobs;
      own_steps = p.own_steps + (at - p.start);
      inner_steps = p.inner_steps;
      behind_child = p.behind_child;
      start = p.start;
      stack = p.stack;
      search = p.search;
      child = p.child;
    } in
    counted_on r stepped own at lines sums way
