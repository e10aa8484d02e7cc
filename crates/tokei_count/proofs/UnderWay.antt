-- A text that is under way goes on by a line, or by a part that a child breaks off and the child.
use Rattle.std.proofs.Common.{◌≡◌, ℕ, ◌+◌, ◌-◌, ◌<◌, ◌≤◌, Bool, true, false, List, [], length, take, drop, None, Some, refl, sym, ◌∙◌, ap, subst, arith, length-drop}
use Rattle.std.proofs.lemmas.List.{drop-drop, drop_all}
use Rattle.std.specs.Global.{Vec}
use Rattle.tokei_table.specs.FirstOpener.{first_opener}
use Rattle.tokei_table.specs.Openers.{openers}
use Rattle.tokei_parts.specs.Class.{class_of}
use Rattle.tokei_parts.specs.Glance.{holds, is_walked, opener_place, walks}
use Rattle.tokei_parts.specs.Glanced.{AreInLine}
use Rattle.tokei_parts.specs.Items.{Block}
use Rattle.tokei_embedding.specs.DocComments.{first_line}
use Rattle.tokei_table_row.specs.Bytes.{line_len}
use Rattle.tokei_parts.specs.Modes.{Chain, innermost}
use Rattle.tokei_count.specs.Languages.{languages_of}
use Rattle.tokei_parts.specs.Tally.{one_of}
use Rattle.tokei_parts.specs.Progress.{IsClosable, IsPart, ReadsLine}
use Rattle.tokei_count.specs.Readers.{reading_of}
use Rattle.tokei_parts.specs.ReadingOf.{row_in, blocks_of, openers_in, line_from}
use Rattle.tokei_parts.specs.Seen.{chain_of}
use Rattle.tokei_count.specs.Steps.{made_steps, capped}
use Rattle.tokei_count.specs.UnderWay.{IsUnderWay, reading_inside, steps_inside}
use Rattle.tokei_parts.specs.Walked.{ReadsTo, Breaks}
use Rattle.tokei_parts.specs.declared.class.Class.{Class}
use Rattle.tokei_parts.specs.declared.items.Enclosure.{Enclosure}
use Rattle.tokei_parts.specs.declared.openings.Block as CodeBlock
use Rattle.tokei_parts.specs.declared.reading.Reading.{Reading}
use Rattle.tokei_count.specs.declared.text_reading.ReadSoFar.{ReadSoFar}
use Rattle.tokei_parts.specs.declared.walk.PartEnd.{PartEnd}
use Rattle.tokei_parts.specs.declared.walk.PartEnd.TheVariants.{Line, Broken}
use Rattle.tokei_stats.specs.Overflow.{CountsFit, Fits}
use Rattle.tokei_stats.specs.Seen.{sums_of, blobs_of, entries_of}
use Rattle.tokei_stats.specs.Statistics.{Counts, Blobs, lines_of, no_lines, plus, at, put, joined, sum}
use Rattle.tokei_stats.specs.Statistics.Statistics.{node}
use Rattle.tokei_stats.specs.declared.sums.Sums.{Sums}
use Rattle.tokei_count.proofs.GlanceReading.{glance_reads, glance_walked}
use Rattle.tokei_count.proofs.KnownLanguages.{blocks_known}
use Rattle.tokei_parts.proofs.LineEnd.{drop_none}
use Rattle.tokei_parts.proofs.Lines.{take-first, first_within}
use Rattle.tokei_parts.proofs.OpenersInLines.{holds-line, place-below, place-behind}
use Rattle.tokei_parts.proofs.PartFronts.{part_behind}
use Rattle.tokei_count.proofs.StepReading.{AreUnderWay, not_walked, lines_of-one, steps_whole, line_steps, line_skipped, broken_steps, glance_part, line_some}
use Rattle.tokei_count.proofs.TextReading.{IsCounted, read_whole, line_read, child_read, line_fits, share_fits, child_fits, blob_fits, levels_left, own_fits, counts_same}
use Rattle.tokei_count.proofs.TokenOpeners.{openers_in_line}

-- the openers that parts are searched for are those of the language
pub openers_are : (r : Reading) → openers_in r ≡ openers (row_in r)
openers_are r = ap (λ m. m.openers) r.matched

some_same : (a b : Block) → Some a ≡ Some b → a ≡ b
some_same a b e = cc

-- where the text's first line goes to
pub first_end : (t : List ℕ) (start end : ℕ) → start ≡ 0 → end ≡ line_len t → end ≡ start + line_len (drop start t)
first_end t start end none is = omega (arith, none, is, ap (λ n. line_len (drop n t)) none ∙ ap line_len (drop_none t))

-- a part that is read to an end, by another word for that end
pub ends_as : (r : Reading) (p : ReadSoFar) (made : ℕ) (last : Chain) (x y : PartEnd) → x ≡ y
    → ReadsTo (row_in r) (blocks_of r) p.behind_child r.docs_are_comments (chain_of p.stack.items) last p.start r.text.now made x
    → ReadsTo (row_in r) (blocks_of r) p.behind_child r.docs_are_comments (chain_of p.stack.items) last p.start r.text.now made y
ends_as r p made last x y same part =
    subst (ReadsTo (row_in r) (blocks_of r) p.behind_child r.docs_are_comments (chain_of p.stack.items) last p.start r.text.now made) same part

-- as many lines more
abbrev pub sums_with : Sums → Sums → Sums
sums_with a b = record { blanks = a.blanks + b.blanks; code = a.code + b.code; comments = a.comments + b.comments }

-- what was read so far, with those lines more, up to that place
abbrev pub gone_on : ReadSoFar → Sums → ℕ → ReadSoFar
gone_on p lines at =
    record {
      own = sums_with p.own lines;
      blobs = p.blobs;
      own_steps = p.own_steps;
      inner_steps = p.inner_steps;
      behind_child =
          p.behind_child;
      start = at;
      stack = p.stack;
      search = p.search;
      child = p.child;
    }

-- the lines are told by their counts
pub same_sums : (a b : Sums) → sums_of a ≡ sums_of b → a ≡ b
same_sums a b e = ap (λ (m : Counts). record { blanks = m.blanks; code = m.code; comments = m.comments }) e

pub counted_on : (r : Reading) (p : ReadSoFar) (o : Sums) (at : ℕ) → (lines : Sums) → sums_of o ≡ sums_of (sums_with p.own lines) → IsUnderWay r (gone_on p lines at)
    → IsUnderWay r (record {
      own = o;
      blobs = p.blobs;
      own_steps = p.own_steps;
      inner_steps = p.inner_steps;
      behind_child = p.behind_child;
      start =
          at;
      stack = p.stack;
      search = p.search;
      child = p.child;
    })
counted_on r p o at lines e way =
    subst (λ (s : Sums). IsUnderWay r (record {
      own = s;
      blobs = p.blobs;
      own_steps = p.own_steps;
      inner_steps = p.inner_steps;
      behind_child =
          p.behind_child;
      start = at;
      stack = p.stack;
      search = p.search;
      child = p.child;
    }))
    (same_sums (sums_with p.own lines) o (sym e)) way

module _ (r : Reading) (p : ReadSoFar) (way : IsUnderWay r p) where
  -- before any more lines
  pub none_more : (lines : Sums) → sums_of lines ≡ no_lines → IsUnderWay r (gone_on p lines p.start)
  none_more lines none =
      let b : 0 ≡ lines.blanks = ap (λ (m : Counts). m.blanks) (sym none) in
      let c : 0 ≡ lines.code = ap (λ (m : Counts). m.code) (sym none) in
      let d : 0 ≡ lines.comments = ap (λ (m : Counts). m.comments) (sym none) in
      let same : p.own ≡ sums_with p.own lines = same_sums p.own (sums_with p.own lines) (counts_same _ _ (omega arith) (omega arith) (omega arith)) in
      subst (λ (s : Sums). IsUnderWay r (record {
        own = s;
        blobs = p.blobs;
        own_steps = p.own_steps;
        inner_steps = p.inner_steps;
        behind_child =
            p.behind_child;
        start = p.start;
        stack = p.stack;
        search = p.search;
        child = p.child;
      })) same way

  -- the counts so far fit where the whole does
  pub counts_fit : Fits (reading_of r) → CountsFit (sums_of p.own)
  counts_fit fits = own_fits r.table.now r.docs_are_comments r.levels r.language r.text.now (sums_of p.own) (blobs_of (entries_of p.blobs.entries))
      p.behind_child (chain_of p.stack.items) (drop p.start r.text.now)
      (record { counts = way.counts; kids = way.kids }) way.lines fits

  abbrev text : List ℕ
  text = r.text.now

  abbrev c : Chain
  c = chain_of p.stack.items

  abbrev rest : List ℕ
  rest = drop p.start text

  abbrev own : Counts
  own = sums_of p.own

  abbrev blobs : Blobs
  blobs = blobs_of (entries_of p.blobs.entries)

  counted : IsCounted r.table.now r.docs_are_comments r.levels r.language text own blobs p.behind_child c rest
  counted = record { counts = way.counts; kids = way.kids }

  stepped : AreUnderWay r.skips r.table.now r.levels r.language text p.own_steps p.inner_steps p.behind_child c rest
  stepped = record { own = way.steps; inner = way.inner }

  -- a part that must be walked where the reading skips is walked
  walks_here : (reach : List ℕ) → reach ≡ first_line rest → (r.skips ≡ true → is_walked (openers_in r) (innermost c) (first_line rest) ≡ true)
      → walks r.skips (openers (row_in r)) (innermost c) reach ≡ true
  walks_here reach e walked = by_test r.skips (λ skipped. ap (is_walked (openers (row_in r)) (innermost c)) e
      ∙ ap (λ os. is_walked os (innermost c) (first_line rest)) (sym (openers_are r)) ∙ walked skipped)
    where
      by_test : (x : Bool) → (x ≡ true → is_walked (openers (row_in r)) (innermost c) reach ≡ true) → walks x (openers (row_in r)) (innermost c) reach ≡ true
      by_test true h = h refl
      by_test false h = refl

  in_line : AreInLine (openers (row_in r))
  in_line = openers_in_line (row_in r) way.tokens

  pub openers_lines : AreInLine (openers_in r)
  openers_lines = subst AreInLine (sym (openers_are r)) in_line

  -- at the end all is read
  pub all_read : length text ≤ p.start → node own blobs ≡ reading_of r
  all_read over = read_whole r.table.now r.docs_are_comments r.levels r.language text own blobs p.behind_child c way.lines
      (subst (IsCounted r.table.now r.docs_are_comments r.levels r.language text own blobs p.behind_child c) (drop_all p.start text over) counted)

  pub all_made : length text ≤ p.start → capped (p.inner_steps + p.own_steps) ≡ capped (made_steps r.skips (languages_of r.table.now) r.levels r.language text)
  all_made over = steps_whole r.skips r.table.now r.levels r.language text p.own_steps p.inner_steps p.behind_child c way.lines
      (subst (AreUnderWay r.skips r.table.now r.levels r.language text p.own_steps p.inner_steps p.behind_child c) (drop_all p.start text over) stepped)

  -- in a text without opener nothing is walked
  pub unwalked : r.skips ≡ true → first_opener (openers (row_in r)) text ≡ None → is_walked (openers_in r) (innermost c) (line_from r p.start) ≡ true → ⊥
  unwalked skipped none walked = not_walked (openers (row_in r)) text p.start c in_line none (way.quiet skipped none).0
      (ap (λ os. is_walked os (innermost c) (first_line rest)) (sym (openers_are r)) ∙ walked)

  -- it goes on by a line that ends before the place `behind`
  module _ (class : Class) (behind j : ℕ) (s : Vec Enclosure) (low : p.start < behind)
      (line : ReadsLine (row_in r) (blocks_of r) p.behind_child r.docs_are_comments c (behind - p.start) j class (chain_of s.items) rest) where
    abbrev n : ℕ
    n = behind - p.start

    abbrev d : Chain
    d = chain_of s.items

    there : drop n rest ≡ drop behind text
    there = let place : p.start + n ≡ behind = omega (arith, low) in drop-drop n p.start text ∙ ap (λ m. drop m text) place

    line_sum_fits : Fits (reading_of r) → CountsFit (plus own (one_of class))
    line_sum_fits fits = line_fits r.table.now r.docs_are_comments r.levels r.language text own blobs p.behind_child c rest counted n class d line way.lines fits

    line_on : (o : Sums) (m : ℕ) (h : List ℕ) (k : CodeBlock.Block) → sums_of o ≡ plus own (one_of class) → h ≡ text → m ≤ behind → (behind < length text → IsPart text p.behind_child behind behind)
        → AreUnderWay r.skips r.table.now r.levels r.language text m p.inner_steps p.behind_child d (drop n rest)
        → (r.skips ≡ true → first_opener (openers (row_in r)) text ≡ None → (d ≡ []) × (lines_of (sums_of o) ≤ behind))
        → IsUnderWay r (record { own = o; blobs = p.blobs; own_steps = m; inner_steps = p.inner_steps; behind_child = p.behind_child; start = behind; stack = s; search = h; child = k })
    line_on o m h k own_is searched few part taken quiet =
        let went : IsCounted r.table.now r.docs_are_comments r.levels r.language text (plus own (one_of class)) blobs p.behind_child d (drop n rest) =
        line_read r.table.now r.docs_are_comments r.levels r.language text own blobs p.behind_child c rest counted n class d line in
        let moved : IsCounted r.table.now r.docs_are_comments r.levels r.language text (plus own (one_of class)) blobs p.behind_child d
        (drop behind text) = subst (IsCounted r.table.now r.docs_are_comments r.levels r.language text (plus own (one_of class)) blobs
        p.behind_child d) there went in
        let now : IsCounted r.table.now r.docs_are_comments r.levels r.language text (sums_of o) blobs p.behind_child d (drop behind text) =
        subst (λ (m : Counts). IsCounted r.table.now r.docs_are_comments r.levels r.language text m blobs p.behind_child d (drop behind text))
        (sym own_is) moved in
        let made = subst (AreUnderWay r.skips r.table.now r.levels r.language text m p.inner_steps p.behind_child d) there taken in
        record {
          lines = way.lines;
          tokens = way.tokens;
          closable = line.closable;
          within = omega (arith, line.within, length-drop p.start text, low);
          part = part;
          searched = searched;
          counts = now.counts;
          kids = now.kids;
          few = few;
          steps = made.own;
          inner = made.inner;
          quiet = quiet;
        }

  -- a line that is skipped, which stops there
  module _ (class : Class) (stop : ℕ) (some : p.start < length text) (plain : c ≡ []) (stop_is : stop ≡ p.start + length (first_line rest)) (none : holds (openers_in r) (first_line rest) ≡ false)
      (class_is : class ≡ class_of (row_in r) r.docs_are_comments (record { begun = None; bytes = take (stop - p.start) rest; ended = None })) where
    size : stop - p.start ≡ length (first_line rest)
    size = omega (arith, stop_is)

    low : p.start < stop
    low = omega (arith, stop_is, line_some text p.start some)

    holds_none : holds (openers (row_in r)) (first_line rest) ≡ false
    holds_none = ap (λ os. holds os (first_line rest)) (sym (openers_are r)) ∙ none

    line : (j : ℕ) × ReadsLine (row_in r) (blocks_of r) p.behind_child r.docs_are_comments c (stop - p.start) j class c rest
    line = glance_reads r.table.now r.docs_are_comments r.levels r.language text p.behind_child rest class c (stop - p.start) plain size way.tokens
        (omega (arith, length-drop p.start text, some)) holds_none class_is

    pub skipped_on : r.skips ≡ true → (o : Sums) → sums_of o ≡ plus own (one_of class)
        → IsUnderWay r (record {
          own = o;
          blobs = p.blobs;
          own_steps = p.own_steps;
          inner_steps = p.inner_steps;
          behind_child =
              p.behind_child;
          start = stop;
          stack = p.stack;
          search = p.search;
          child = p.child;
        })
    skipped_on skipped o own_is = line_on class stop line.0 p.stack low line.1 o p.own_steps p.search p.child own_is way.searched (omega (arith, way.few, low))
        (λ more. glance_part text p.behind_child p.start stop (way.part some) stop_is some more)
        (line_skipped r.skips r.table.now r.levels r.language text p.own_steps p.inner_steps p.behind_child c rest stepped r.docs_are_comments (stop - p.start) line.0 class c line.1
        (ap (λ x. walks x (openers (row_in r)) (innermost c) (take (stop - p.start) rest)) skipped ∙ glance_walked (openers (row_in r)) c (stop - p.start) rest plain size holds_none))
        (λ skipped quiet. (plain, omega (arith, (way.quiet skipped quiet).1, ap lines_of own_is, lines_of-one own class, low)))

  -- a part that is walked to the end of its line, by so many steps
  module _ (class : Class) (behind made : ℕ) (s : Vec Enclosure)
      (part : ReadsTo (row_in r) (blocks_of r) p.behind_child r.docs_are_comments c (chain_of s.items) p.start text made (Line class behind)) where
    pub walked_past : p.start < behind
    walked_past = part.some

    pub walked_fits : Fits (reading_of r) → CountsFit (plus own (one_of class))
    walked_fits fits = line_sum_fits class behind made s part.some part.reads fits

    pub walked_on : (o : Sums) (h : List ℕ) (k : CodeBlock.Block) → sums_of o ≡ plus own (one_of class) → h ≡ text → (r.skips ≡ true → is_walked (openers_in r) (innermost c) (first_line rest) ≡ true)
        → IsUnderWay r (record {
          own = o;
          blobs = p.blobs;
          own_steps = p.own_steps + made;
          inner_steps = p.inner_steps;
          behind_child =
              p.behind_child;
          start = behind;
          stack = s;
          search = h;
          child = k;
        })
    walked_on o h k own_is searched walked =
        let size : behind - p.start ≡ length (first_line rest) = omega (arith, part.line) in
        let reach : take (behind - p.start) rest ≡ first_line rest = ap (λ m. take m rest) size ∙ take-first rest in
        line_on class behind made s part.some part.reads o (p.own_steps + made) h k own_is searched (omega (arith, way.few, part.some, part.few)) part.part
        (line_steps r.skips r.table.now r.levels r.language text p.own_steps p.inner_steps p.behind_child c rest stepped r.docs_are_comments (behind - p.start) made class (chain_of s.items) part.reads
        (walks_here (take (behind - p.start) rest) reach walked))
        (λ skipped none. absurd (unwalked skipped none (walked skipped)))

  -- a part that is walked to the place at which a child breaks it off, and the child k
  module _ (place made : ℕ) (d : Chain) (k : Block) (part : ReadsTo (row_in r) (blocks_of r) p.behind_child r.docs_are_comments c d p.start text made
      (Broken place)) (opens : blocks_of r p.behind_child (drop place text) ≡ Some k) where
    abbrev before : ℕ
    before = place - p.start

    abbrev j : ℕ
    j = part.1

    breaks : Breaks (row_in r) (blocks_of r) p.behind_child r.docs_are_comments c d p.start text place j k
    breaks = subst (Breaks (row_in r) (blocks_of r) p.behind_child r.docs_are_comments c d p.start text place j) (some_same part.0 k (sym part.3.opens ∙ opens)) part.3

    len : length rest ≡ length text - p.start
    len = length-drop p.start text

    pub child_deep : 0 < r.levels
    child_deep = levels_left r.table.now r.levels r.language text p.behind_child (drop place text) k opens

    pub child_known : k.language < length r.table.now
    child_known = blocks_known r.table.now r.language text r.known r.levels p.behind_child (drop place text) k opens

    pub child_within : place + k.size ≤ length text
    child_within = omega (arith, breaks.reads.within, len, breaks.part.low, breaks.part.high)

    pub child_past : p.start < place + k.size
    child_past = omega (arith, breaks.reads.some, breaks.part.low)

    pub broken_fits : Fits (reading_of r) → CountsFit (plus own k.share)
    broken_fits fits = share_fits r.table.now r.docs_are_comments r.levels r.language text own blobs p.behind_child c rest counted before j k d breaks.reads way.lines fits

    pub inner_fits : Fits (reading_of r) → Fits (reading_inside r k)
    inner_fits fits = child_fits r.table.now r.docs_are_comments r.levels r.language text own blobs p.behind_child c rest counted before j k d breaks.reads way.lines fits

    pub added_fits : Fits (reading_of r) → Fits (joined (at blobs k.language) (λ s. sum s (reading_inside r k)) (reading_inside r k))
    added_fits fits = blob_fits r.table.now r.docs_are_comments r.levels r.language text own blobs p.behind_child c rest counted before j k d breaks.reads way.lines fits

    pub broken_on : (q : ReadSoFar) → sums_of q.own ≡ plus own k.share
        → blobs_of (entries_of q.blobs.entries) ≡ put blobs k.language (joined (at blobs k.language) (λ s. sum s (reading_inside r k)) (reading_inside r k))
        → q.own_steps ≡ p.own_steps + made → q.inner_steps ≡ capped (p.inner_steps + capped (steps_inside r k))
        → q.behind_child ≡ length text - (place + k.size) → q.start ≡ place + k.size → chain_of q.stack.items ≡ d → q.search ≡ text
        → (r.skips ≡ true → is_walked (openers_in r) (innermost c) (first_line rest) ≡ true) → IsUnderWay r q
    broken_on q own_is blobs_are made_is inner_is left_is start_is chain_is searched walked =
        let plain : chain_of q.stack.items ≡ [] = chain_is ∙ breaks.reads.plain in
        let low : p.start ≤ place = breaks.part.low in
        let left' : length rest - (before + k.size) ≡ q.behind_child = omega (arith, len, low, left_is) in
        let there : drop (before + k.size) rest ≡ drop q.start text = let at_place : p.start + (before + k.size) ≡ q.start =
        omega (arith, low, start_is) in drop-drop (before + k.size) p.start text ∙ ap (λ m. drop m text) at_place in
        let own_steps_are : p.own_steps + (j + 1) ≡ q.own_steps = omega (arith, made_is, part.2) in
        let within : q.start ≤ length text = omega (arith, child_within, start_is) in
        let went = child_read r.table.now r.docs_are_comments r.levels r.language text own blobs p.behind_child c rest counted before j k d breaks.reads in
        let with_k : Blobs = put blobs k.language (joined (at blobs k.language) (λ s. sum s (reading_inside r k)) (reading_inside r k)) in
        let went1 = subst (λ (m : Counts). IsCounted r.table.now r.docs_are_comments r.levels r.language text m with_k
        (length rest - (before + k.size)) [] (drop (before + k.size) rest)) (sym own_is) went in
        let went2 = subst (λ (bs : Blobs). IsCounted r.table.now r.docs_are_comments r.levels r.language text (sums_of q.own) bs
        (length rest - (before + k.size)) [] (drop (before + k.size) rest)) (sym blobs_are) went1 in
        let went3 = subst (λ (m : ℕ). IsCounted r.table.now r.docs_are_comments r.levels r.language text (sums_of q.own)
        (blobs_of (entries_of q.blobs.entries)) m [] (drop (before + k.size) rest)) left' went2 in
        let went4 = subst (λ (e : Chain). IsCounted r.table.now r.docs_are_comments r.levels r.language text (sums_of q.own)
        (blobs_of (entries_of q.blobs.entries)) q.behind_child e (drop (before + k.size) rest)) (sym plain) went3 in
        let now = subst (IsCounted r.table.now r.docs_are_comments r.levels r.language text (sums_of q.own) (blobs_of (entries_of q.blobs.entries))
        q.behind_child (chain_of q.stack.items)) there went4 in
        let taken =
        let stepped1 = broken_steps r.skips r.table.now r.levels r.language text p.own_steps p.inner_steps p.behind_child c rest stepped
        r.docs_are_comments before j k d breaks.reads (walks_here (first_line rest) refl walked) in
        let stepped2 = subst (λ m. AreUnderWay r.skips r.table.now r.levels r.language text m (capped (p.inner_steps + capped (steps_inside r k)))
        (length rest - (before + k.size)) [] (drop (before + k.size) rest)) own_steps_are stepped1 in
        let stepped3 = subst (λ m. AreUnderWay r.skips r.table.now r.levels r.language text q.own_steps m (length rest - (before + k.size)) [] (drop (before + k.size) rest)) (sym inner_is) stepped2 in
        let stepped4 = subst (λ m. AreUnderWay r.skips r.table.now r.levels r.language text q.own_steps q.inner_steps m [] (drop (before + k.size) rest)) left' stepped3 in
        let stepped5 = subst (λ (e : Chain). AreUnderWay r.skips r.table.now r.levels r.language text q.own_steps q.inner_steps q.behind_child e (drop (before + k.size) rest)) (sym plain) stepped4 in
        subst (AreUnderWay r.skips r.table.now r.levels r.language text q.own_steps q.inner_steps q.behind_child (chain_of q.stack.items)) there stepped5 in
        record {
          lines = way.lines;
          tokens = way.tokens;
          closable = subst IsClosable (sym plain) tt;
          within = within;
          part = λ more. let left_there : length text - q.start ≡ q.behind_child =
              omega (arith, left_is, start_is) in subst (λ l. IsPart text l q.start q.start) left_there (part_behind text q.start within);
          searched = searched;
          counts = now.counts;
          kids = now.kids;
          few = omega (arith, way.few, made_is, part.2, breaks.few, breaks.reads.some, low, start_is);
          steps = taken.own;
          inner = taken.inner;
          quiet = λ skipped none. absurd (unwalked skipped none (walked skipped));
        }

-- lines that were skipped, and one more, by the place of the first opener
pub skipped_more : (r : Reading) (p : ReadSoFar) (lines more : Sums) (at stop next : ℕ) (class : Class) → r.skips ≡ true
    → IsUnderWay r (gone_on p lines at) → sums_of more ≡ plus (sums_of lines) (one_of class)
    → at < length r.text.now → chain_of p.stack.items ≡ [] → stop ≡ at + length (first_line (drop at r.text.now)) → next ≡ at + opener_place (openers_in r) (drop at r.text.now) → stop ≤ next
    → class ≡ class_of (row_in r) r.docs_are_comments (record { begun = None; bytes = take (stop - at) (drop at r.text.now); ended = None })
    → IsUnderWay r (gone_on p more stop)
skipped_more r p lines more at stop next class skipped way more_is some plain stop_is next_is before class_is =
    let q : ReadSoFar = gone_on p lines at in
    let u : List ℕ = drop at r.text.now in
    let none : holds (openers_in r) (first_line u) ≡ false = holds-line (openers_in r) (openers_lines r q way) u
    ∙ place-behind (openers_in r) u (length (first_line u)) (omega (arith, stop_is, next_is, before)) in
    let blanks : more.blanks ≡ lines.blanks + (one_of class).blanks = ap (λ (m : Counts). m.blanks) more_is in
    let code : more.code ≡ lines.code + (one_of class).code = ap (λ (m : Counts). m.code) more_is in
    let comments : more.comments ≡ lines.comments + (one_of class).comments = ap (λ (m : Counts). m.comments) more_is in
    let own_is : sums_of (sums_with p.own more) ≡ plus (sums_of q.own) (one_of class) = counts_same _ _ (omega (arith, blanks)) (omega (arith, code)) (omega (arith, comments)) in
    skipped_on r q way class stop some plain stop_is none class_is skipped (sums_with p.own more) own_is

-- the part that is left where its line goes on behind the first opener is walked
pub walked_behind : (r : Reading) (p : ReadSoFar) (next : ℕ) → IsUnderWay r p → chain_of p.stack.items ≡ [] → next ≡ p.start + opener_place (openers_in r) (drop p.start r.text.now)
    → next < p.start + length (line_from r p.start) → is_walked (openers_in r) (innermost (chain_of p.stack.items)) (line_from r p.start) ≡ true
walked_behind r p next way plain known more =
    let u : List ℕ = drop p.start r.text.now in
    ap (λ (d : Chain). is_walked (openers_in r) (innermost d) (first_line u)) plain
    ∙ (holds-line (openers_in r) (openers_lines r p way) u ∙ place-below (openers_in r) u (length (first_line u)) (first_within u) (omega (arith, known, more)))
