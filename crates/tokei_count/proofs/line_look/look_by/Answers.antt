use Rattle.std.proofs.Common.{◌≡◌, ℕ, List, ◌+◌, ◌-◌, ◌^◌, ◌<◌, ◌≤◌, ◌==◌, bit_and, drop, true, ap, sym, subst, ◌∙◌, arith}
use Rattle.std.specs.List.{list_all}
use lib.Lanes.{chunk}
use Rattle.std.specs.Int.{bit_at}
use Rattle.tokei_bytes.proofs.LineSums.{flag_small}
use Rattle.tokei_bytes.specs.Lines.{blank_after}
use Rattle.tokei_table.specs.Bytes.{begins_with_one}
use Rattle.tokei_table.specs.FirstOpener.{is_nonempty}
use Rattle.tokei_table.specs.Row.{Row}
use Rattle.tokei_table_rules.proofs.Nonempty.{openers_nonempty}
use Rattle.tokei_table.specs.Slices.{between}
use Rattle.tokei_parts.specs.ReadingOf.{openers_in, row_in}
use Rattle.tokei_parts.specs.LineMarks.{is_marked}
use Rattle.tokei_count.specs.LineLooks.{AreTold, HasLineComment, IsClear}
use Rattle.tokei_count.proofs.LookedAhead.{and_small, blank_at, blank_on, clear_from, clear_on, gap_stays, marks_small, next_here, none_ended, none_marked, told_on, unset, unset_with}
use Rattle.tokei_count.proofs.UnderWay.{openers_are}
use Rattle.tokei_count.proofs.line_look.look_by.Goals as goal

pub returns-then-gap-lt-BLOCK-2-clause-told : goal.returns-then-gap-lt-BLOCK-2-clause-told
returns-then-gap-lt-BLOCK-2-clause-told g c =
    let look = c.loop-look in
    let i = look.invariant in
    let r = c.args.ahead.now.reading.now in
    let gap = c.gap_in_block-gap in
    let f = c.line_masks-lines-else-marked-eq0.result.fronts in
    let m = c.in_block-marked.result in
    let few : gap.result ≤ 32 = omega (arith, c.if-gap-gt-BLOCK.false) in
    subst (AreTold (row_in r) (is_marked c.args.ahead.now.marks.now) r.text.now c.args.ahead.now.start) (sym c.with_block-look-else-marked-eq0.ensures.at)
    (told_on (row_in r) (is_marked c.args.ahead.now.marks.now) r.text.now c.args.ahead.now.start look.look.at gap.result look.blank (omega (arith, i.look.low, i.look.order))
    (omega (arith, c.loop-look-test.true, c.args.ahead.now.inside)) few i.blank f m c.line_masks-lines-else-marked-eq0.ensures.fronts c.in_block-marked.ensures i.told
    (λ k low set. subst (λ (g : Row). HasLineComment g r.text.now (look.look.at + k)) r.row
    (c.are_comments.ensures c.if-not-are_comments.false k low (ap (λ n. bit_at (bit_and (bit_and f (n - 1)) m) k) (gap_stays gap.result few) ∙ set))))

pub returns-then-gap-lt-BLOCK-2-clause-blank : goal.returns-then-gap-lt-BLOCK-2-clause-blank
returns-then-gap-lt-BLOCK-2-clause-blank g c =
    let look = c.loop-look in
    let i = look.invariant in
    let r = c.args.ahead.now.reading.now in
    let gap = c.gap_in_block-gap in
    let inside : gap.result < 32 = c.if-gap-lt-BLOCK-2.true in
    blank_at (openers_in r) (is_marked c.args.ahead.now.marks.now) r.text.now c.args.ahead.now.start look.look.at gap.result look.blank (omega (arith, i.look.low, i.look.order))
    (omega (arith, c.loop-look-test.true, c.args.ahead.now.inside)) i.blank
    (ap (list_all is_nonempty) (openers_are r) ∙ openers_nonempty (row_in r) c.args.ahead.now.tokens)
    c.args.ahead.now.marked.slots.none c.args.ahead.now.marked.slots.blanks inside (gap.ensures.found inside)
    c.line_masks-lines-else-marked-eq0.result.fronts c.line_masks-lines-else-marked-eq0.ensures.fronts
    ∙ ap (λ n. blank_after true (between r.text.now c.args.ahead.now.start n)) (sym c.with_block-look-else-marked-eq0.ensures.at)

pub loop-look-preserved-then-marked-eq0 : goal.loop-look-preserved-then-marked-eq0
loop-look-preserved-then-marked-eq0 g c =
    let look = c.loop-look in
    let i = look.invariant in
    let r = c.args.ahead.now.reading.now in
    let f = c.line_masks-lines.result.fronts in
    let m = c.in_block-marked.result in
    let none : m ≡ 0 = c.if-marked-eq0.true in
    let text : List ℕ = r.text.now in
    let there : look.look.at + 32 ≡ c.with_block-look.result.at = sym c.with_block-look.ensures.at in
    record {
      look = c.with_block-look.ensures.look;
      flag = omega (arith, c.line_masks-lines.ensures.blank, flag_small (blank_after (look.blank == 1) (chunk look.look.at 32 text)));
      blank = blank_on (row_in r) (is_marked c.args.ahead.now.marks.now) text c.args.ahead.now.start look.look.at 32 look.blank (omega (arith, i.look.low, i.look.order))
          (omega (arith, c.loop-look-test.true, c.args.ahead.now.inside)) (omega arith) i.blank c.line_masks-lines.result.blank c.line_masks-lines.ensures.blank
          ∙ ap (λ n. blank_after true (between text c.args.ahead.now.start n)) there;
      clear = subst (IsClear (openers_in r) text c.args.ahead.now.start) there
          (clear_on (openers_in r) text c.args.ahead.now.start look.look.at (look.look.at + 32) i.clear
          (clear_from (openers_in r) text look.look.at 32
          (λ k low. none_marked (openers_in r) (is_marked c.args.ahead.now.marks.now) text look.look.at
          (ap (list_all is_nonempty) (openers_are r) ∙ openers_nonempty (row_in r) c.args.ahead.now.tokens) c.args.ahead.now.marked.slots.none
          (omega (arith, c.loop-look-test.true, c.args.ahead.now.inside)) m c.in_block-marked.ensures k low (unset m k none))));
      told = subst (AreTold (row_in r) (is_marked c.args.ahead.now.marks.now) text c.args.ahead.now.start) there
          (told_on (row_in r) (is_marked c.args.ahead.now.marks.now) text c.args.ahead.now.start look.look.at 32 look.blank (omega (arith, i.look.low, i.look.order))
          (omega (arith, c.loop-look-test.true, c.args.ahead.now.inside)) (omega arith) i.blank f m c.line_masks-lines.ensures.fronts c.in_block-marked.ensures i.told
          (λ k low set. absurd (omega (arith, set, unset_with (bit_and f (2 ^ 32 - 1)) m k none))));
    }

pub loop-look-preserved : goal.loop-look-preserved
loop-look-preserved g c =
    let look = c.loop-look in
    let i = look.invariant in
    let r = c.args.ahead.now.reading.now in
    let gap = c.gap_in_block-gap in
    let f = c.line_masks-lines-else-marked-eq0.result.fronts in
    let m = c.in_block-marked.result in
    let few : gap.result ≤ 32 = omega (arith, c.if-gap-gt-BLOCK.false) in
    let text : List ℕ = r.text.now in
    let whole : gap.result ≡ 32 = omega (arith, few, c.if-gap-lt-BLOCK-2.false) in
    let there : look.look.at + 32 ≡ c.with_block-look-else-marked-eq0.result.at = omega (arith, c.with_block-look-else-marked-eq0.ensures.at, whole) in
    record {
      look = c.with_block-look-else-marked-eq0.ensures.look;
      flag = omega (arith, c.line_masks-lines-else-marked-eq0.ensures.blank, flag_small (blank_after (look.blank == 1) (chunk look.look.at 32 text)));
      blank = blank_on (row_in r) (is_marked c.args.ahead.now.marks.now) text c.args.ahead.now.start look.look.at gap.result look.blank (omega (arith, i.look.low, i.look.order))
          (omega (arith, c.loop-look-test.true, c.args.ahead.now.inside)) few i.blank c.line_masks-lines-else-marked-eq0.result.blank c.line_masks-lines-else-marked-eq0.ensures.blank
          ∙ ap (λ n. blank_after true (between text c.args.ahead.now.start n)) there;
      clear = subst (IsClear (openers_in r) text c.args.ahead.now.start) (sym c.with_block-look-else-marked-eq0.ensures.at)
          (clear_on (openers_in r) text c.args.ahead.now.start look.look.at (look.look.at + gap.result) i.clear (gap.ensures.clear few));
      told = subst (AreTold (row_in r) (is_marked c.args.ahead.now.marks.now) text c.args.ahead.now.start) (sym c.with_block-look-else-marked-eq0.ensures.at)
          (told_on (row_in r) (is_marked c.args.ahead.now.marks.now) text c.args.ahead.now.start look.look.at gap.result look.blank (omega (arith, i.look.low, i.look.order))
          (omega (arith, c.loop-look-test.true, c.args.ahead.now.inside)) few i.blank f m c.line_masks-lines-else-marked-eq0.ensures.fronts c.in_block-marked.ensures i.told
          (λ k low set. subst (λ (g : Row). HasLineComment g r.text.now (look.look.at + k)) r.row
          (c.are_comments.ensures c.if-not-are_comments.false k low (ap (λ n. bit_at (bit_and (bit_and f (n - 1)) m) k) (gap_stays gap.result few) ∙ set))));
    }

pub are_comments-requires-clause-small : goal.are_comments-requires-clause-small
are_comments-requires-clause-small g c =
    let look = c.loop-look in
    and_small _ c.in_block-marked.result (omega (
      arith,
      c.in_block-marked.ensures,
      marks_small (is_marked c.args.ahead.now.marks.now) c.args.ahead.now.reading.now.text.now look.look.at (omega (arith, c.loop-look-test.true, c.args.ahead.now.inside)),
    ))

pub returns-then-gap-lines-clause-found : goal.returns-then-gap-lines-clause-found
returns-then-gap-lines-clause-found g c = λ inside.
    let look = c.loop-look in
    let r = c.args.ahead.now.reading.now in
    let gap = c.gap_in_block-gap in
    let below : gap.result < 32 = c.if-gap-lt-BLOCK.true in
    let few : gap.result ≤ 32 = omega (arith, below) in
    let lines = c.line_masks-lines-else-marked-eq0 in
    record {
      order = omega arith;
      clear = gap.ensures.clear few;
      on = none_ended r.text.now look.look.at gap.result lines.result.newlines (omega (arith, c.loop-look-test.true, c.args.ahead.now.inside)) few lines.ensures.newlines c.if-gap-lines.true;
      opener = gap.ensures.found below;
    }

pub returns-then-gap-lt-BLOCK-2-clause-clear : goal.returns-then-gap-lt-BLOCK-2-clause-clear
returns-then-gap-lt-BLOCK-2-clause-clear g c =
    let look = c.loop-look in
    let r = c.args.ahead.now.reading.now in
    let gap = c.gap_in_block-gap in
    let few : gap.result ≤ 32 = omega (arith, c.if-gap-gt-BLOCK.false) in
    subst (IsClear (openers_in r) r.text.now c.args.ahead.now.start) (sym c.with_block-look-else-marked-eq0.ensures.at)
    (clear_on (openers_in r) r.text.now c.args.ahead.now.start look.look.at (look.look.at + gap.result) look.invariant.clear (gap.ensures.clear few))

pub returns-then-gap-lt-BLOCK-2-clause-found : goal.returns-then-gap-lt-BLOCK-2-clause-found
returns-then-gap-lt-BLOCK-2-clause-found g c = λ inside.
    let r = c.args.ahead.now.reading.now in
    next_here (openers_in r) r.text.now c.with_block-look-else-marked-eq0.result.at
    (ap (λ n. begins_with_one (openers_in r) (drop n r.text.now)) c.with_block-look-else-marked-eq0.ensures.at ∙ c.gap_in_block-gap.ensures.found c.if-gap-lt-BLOCK-2.true)

pub with_block-look-requires : goal.with_block-look-requires
with_block-look-requires g c =
    let i = c.loop-look.invariant in record {
      look = i.look;
      within = omega (arith, c.loop-look-test.true, c.args.ahead.now.inside);
      gap = omega arith;
      blank = i.blank;
      newlines = c.line_masks-lines.ensures.newlines;
      fronts = c.line_masks-lines.ensures.fronts;
      marked = c.in_block-marked.ensures;
    }

pub with_block-look-requires-else-marked-eq0 : goal.with_block-look-requires-else-marked-eq0
with_block-look-requires-else-marked-eq0 g c =
    let i = c.loop-look.invariant in
    let lines = c.line_masks-lines-else-marked-eq0 in record {
      look = i.look;
      within = omega (arith, c.loop-look-test.true, c.args.ahead.now.inside);
      gap = omega (arith, c.if-gap-gt-BLOCK.false);
      blank = i.blank;
      newlines = lines.ensures.newlines;
      fronts = lines.ensures.fronts;
      marked = c.in_block-marked.ensures;
    }

pub returns-then-gap-lt-BLOCK-2-clause-look : goal.returns-then-gap-lt-BLOCK-2-clause-look
returns-then-gap-lt-BLOCK-2-clause-look g c = c.with_block-look-else-marked-eq0.ensures.look

pub returns-then-not-are_comments-clause-look : goal.returns-then-not-are_comments-clause-look
returns-then-not-are_comments-clause-look g c = c.loop-look.invariant.look

pub returns-then-gap-gt-BLOCK-clause-look : goal.returns-then-gap-gt-BLOCK-clause-look
returns-then-gap-gt-BLOCK-clause-look g c = c.loop-look.invariant.look

pub returns-then-gap-lines-clause-look : goal.returns-then-gap-lines-clause-look
returns-then-gap-lines-clause-look g c = c.loop-look.invariant.look

pub returns-else-look-lt-NEAR-clause-look : goal.returns-else-look-lt-NEAR-clause-look
returns-else-look-lt-NEAR-clause-look g c = c.loop-look.invariant.look
