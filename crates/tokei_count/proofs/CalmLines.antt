-- A line within an item, in which each choice takes its byte, is one part, and the text goes on by it.
use Rattle.std.proofs.Common.{◌≡◌, ◌∙◌, ℕ, zero, suc, ◌+◌, ◌-◌, ◌<◌, ◌≤◌, true, List, length, drop, Option, None, Some, refl, sym, ap, subst, arith, length-drop}
use Rattle.std.proofs.lemmas.List.{drop-drop}
use Rattle.tokei_table.specs.Row.{Row}
use Rattle.tokei_parts.specs.Calm.{IsCalm}
use Rattle.tokei_parts.specs.Choice.{choice}
use Rattle.tokei_parts.specs.Choice.Choice.{takes_byte}
use Rattle.tokei_parts.specs.Class.{class_of}
use Rattle.tokei_parts.specs.Glance.{is_walked}
use Rattle.tokei_parts.specs.Items.{Block, Enclosure}
use Rattle.tokei_embedding.specs.DocComments.{first_line}
use Rattle.tokei_table_row.specs.Bytes.{line_len}
use Rattle.tokei_parts.specs.Modes.{Chain, innermost}
use Rattle.tokei_parts.specs.Tally.{one_of}
use Rattle.tokei_parts.specs.Progress.{Leads, Goes, IsClosable, IsPart, ReadsLine, newlines}
use Rattle.tokei_parts.specs.ReadingOf.{row_in, blocks_of, openers_in}
use Rattle.tokei_parts.specs.SeenChoices.{mode_of}
use Rattle.tokei_parts.specs.Seen.{chain_of}
use Rattle.tokei_count.specs.UnderWay.{IsUnderWay}
use Rattle.tokei_parts.specs.Walked.{IsLine}
use Rattle.tokei_parts.specs.declared.class.Class.{Class}
use Rattle.tokei_parts.specs.declared.items.Enclosure as CodeEnclosure
use Rattle.tokei_parts.specs.declared.reading.Reading.{Reading}
use Rattle.tokei_count.specs.declared.text_reading.ReadSoFar.{ReadSoFar}
use Rattle.tokei_stats.specs.Seen.{sums_of}
use Rattle.tokei_stats.specs.Statistics.{Counts, no_lines, plus}
use Rattle.tokei_stats.specs.declared.sums.Sums.{Sums}
use Rattle.tokei_parts.proofs.Blocks.{blocks_fit}
use Rattle.tokei_parts.proofs.Leading.{lead_none, lead_on, line_len-drop}
use Rattle.tokei_parts.proofs.LineEnds.{first_line-low}
use Rattle.tokei_parts.proofs.Lines.{line_reads, first_within}
use Rattle.tokei_count.proofs.StepReading.{glance_part, line_some}
use Rattle.tokei_parts.proofs.Stepping.{goes_byte}
use Rattle.tokei_count.proofs.TextReading.{counts_same}
use Rattle.tokei_count.proofs.UnderWay.{sums_with, none_more, walked_on}

-- in an item no child opens
in_item : (g : Row) (e : Enclosure) (o : Option Block) (u : List ℕ) → choice g (Some e) o u ≡ choice g (Some e) None u
unfolding choice
in_item g e o u = refl

module _ (r : Reading) (l : ℕ) (c : Chain) (item : CodeEnclosure.Enclosure) (closable : IsClosable c) (within : innermost c ≡ mode_of (Some item)) where
  goes : (u : List ℕ) → 0 < line_len u → choice (row_in r) (mode_of (Some item)) None u ≡ takes_byte → Goes (row_in r) (blocks_of r) l c 1 1 c u
  goes u some h = goes_byte (row_in r) (blocks_of r) l r.sound (blocks_fit r).in_line c u closable some
      (ap (λ m. choice (row_in r) m (blocks_of r l u) u) within ∙ in_item (row_in r) _ (blocks_of r l u) u ∙ h)

  -- so many bytes lead on, each by a choice
  leads : (n : ℕ) (u : List ℕ) → n ≤ line_len u → ((p : ℕ) → p < n → choice (row_in r) (mode_of (Some item)) None (drop p u) ≡ takes_byte) → Leads (row_in r) (blocks_of r) l c n n c u
  leads zero u h calm = lead_none (row_in r) (blocks_of r) l c u
  leads (suc n) u h calm =
      let one : n + 1 ≡ suc n = omega arith in
      let some : 0 < line_len (drop n u) = omega (arith, h, line_len-drop n u (omega (arith, h))) in
      subst (λ m. Leads (row_in r) (blocks_of r) l c m m c u) one
      (lead_on (row_in r) (blocks_of r) l c c c n 1 n 1 u (leads n u (omega (arith, h)) (λ p below. calm p (omega (arith, below)))) (goes (drop n u) some (calm n (omega arith))).leads)

  pub calm_line : (start stop to : ℕ) (class : Class) → start < length r.text.now → IsPart r.text.now l start start → stop ≡ start + length (first_line (drop start r.text.now)) → stop ≤ to
      → IsCalm (row_in r) item r.text.now start to
      → ((bytes : List ℕ) → class ≡ class_of (row_in r) r.docs_are_comments (record { begun = mode_of (Some item); bytes = bytes; ended = mode_of (Some item) }))
      → IsLine (row_in r) (blocks_of r) l r.docs_are_comments c c start r.text.now (stop - start) class stop
  calm_line start stop to class some part stop_is high calm class_is =
      let text : List ℕ = r.text.now in
      let u : List ℕ = drop start text in
      let size : length (first_line u) ≡ stop - start = omega (arith, stop_is) in
      let all : line_len u + newlines u ≡ stop - start = omega (arith, size, first_line-low u) in
      let calm_here : (p : ℕ) → p < line_len u → choice (row_in r) (mode_of (Some item)) None (drop p u) ≡ takes_byte =
      λ p below. ap (choice (row_in r) (mode_of (Some item)) None) (drop-drop p start text) ∙ calm (start + p) (omega arith) (omega (arith, below, stop_is, high, first_line-low u)) in
      let class_here : class ≡ class_of (row_in r) r.docs_are_comments (record { begun = innermost c; bytes = first_line u; ended = innermost c }) =
      class_is (first_line u) ∙ ap (λ m. class_of (row_in r) r.docs_are_comments (record { begun = m; bytes = first_line u; ended = m })) (sym within) in
      let read =
      line_reads (row_in r) (blocks_of r) l r.docs_are_comments c c u class r.sound
      (blocks_fit r).in_line closable (omega (arith, length-drop start text, some)) (line_len u)
      (leads (line_len u) u (omega arith) calm_here) class_here in
      record {
        some = omega (arith, stop_is, line_some text start some);
        within = omega (arith, stop_is, first_within u, length-drop start text, some);
        part = λ more. glance_part text l start stop part stop_is some more;
        few = omega arith;
        line = stop_is;
        reads = subst (λ n. ReadsLine (row_in r) (blocks_of r) l r.docs_are_comments c n (stop - start) class c u) size
            (subst (λ j. ReadsLine (row_in r) (blocks_of r) l r.docs_are_comments c (length (first_line u)) j class c u) all read);
      }

-- what was read so far, with those lines more, up to that place, each of whose bytes was a choice
abbrev pub gone_within : ReadSoFar → Sums → ℕ → ReadSoFar
gone_within p lines at =
    record {
      own = sums_with p.own lines;
      blobs = p.blobs;
      own_steps = p.own_steps + (at - p.start);
      inner_steps = p.inner_steps;
      behind_child = p.behind_child;
      start = at;
      stack = p.stack;
      search = p.search;
      child = p.child;
    }

-- lines within the item, and one more
pub calm_more : (r : Reading) (p : ReadSoFar) (item : CodeEnclosure.Enclosure) (lines more : Sums) (at stop to : ℕ) (class : Class) → p.start ≤ at → IsUnderWay r (gone_within p lines at)
    → sums_of more ≡ plus (sums_of lines) (one_of class) → at < length r.text.now → innermost (chain_of p.stack.items) ≡ mode_of (Some item)
    → stop ≡ at + length (first_line (drop at r.text.now)) → stop ≤ to → IsCalm (row_in r) item r.text.now at to
    → ((bytes : List ℕ) → class ≡ class_of (row_in r) r.docs_are_comments (record { begun = mode_of (Some item); bytes = bytes; ended = mode_of (Some item) }))
    → IsUnderWay r (gone_within p more stop)
calm_more r p item lines more at stop to class low way more_is some within stop_is high calm class_is =
    let q : ReadSoFar = gone_within p lines at in
    let blanks : more.blanks ≡ lines.blanks + (one_of class).blanks = ap (λ (m : Counts). m.blanks) more_is in
    let code : more.code ≡ lines.code + (one_of class).code = ap (λ (m : Counts). m.code) more_is in
    let comments : more.comments ≡ lines.comments + (one_of class).comments = ap (λ (m : Counts). m.comments) more_is in
    let own_is : sums_of (sums_with p.own more) ≡ plus (sums_of q.own) (one_of class) = counts_same _ _ (omega (arith, blanks)) (omega (arith, code)) (omega (arith, comments)) in
    let line = calm_line r p.behind_child (chain_of p.stack.items) item way.closable within at stop to class some (way.part some) stop_is high calm class_is in
    let made : p.own_steps + (at - p.start) + (stop - at) ≡ p.own_steps + (stop - p.start) = omega (arith, low, line.some) in
    let walked : is_walked (openers_in r) (innermost (chain_of p.stack.items))
    (first_line (drop at r.text.now))
    ≡ true =
    ap (λ m. is_walked (openers_in r) m (first_line (drop at r.text.now))) within in
    subst
    (λ n. IsUnderWay r (record {
      own = sums_with p.own more;
      blobs = p.blobs;
      own_steps = n;
      inner_steps = p.inner_steps;
      behind_child = p.behind_child;
      start = stop;
      stack = p.stack;
      search = p.search;
      child = p.child;
    }))
    made
    (walked_on r q way class stop (stop - at) p.stack line (sums_with p.own more) p.search p.child own_is way.searched (λ skipped. walked))

-- before any lines more
pub none_within : (r : Reading) (p : ReadSoFar) (way : IsUnderWay r p) (lines : Sums) → sums_of lines ≡ no_lines → IsUnderWay r (gone_within p lines p.start)
none_within r p way lines none =
    let same : p.own_steps ≡ p.own_steps + (p.start - p.start) = omega arith in
    subst
    (λ n. IsUnderWay r (record {
      own = sums_with p.own lines;
      blobs = p.blobs;
      own_steps = n;
      inner_steps = p.inner_steps;
      behind_child = p.behind_child;
      start = p.start;
      stack = p.stack;
      search = p.search;
      child = p.child;
    }))
    same (none_more r p way lines none)
