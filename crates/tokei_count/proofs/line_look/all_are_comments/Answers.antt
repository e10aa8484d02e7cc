use Rattle.std.proofs.Common.{◌≡◌, ◌+◌, arith}
use Rattle.std.specs.Int.{bit_at}
use Rattle.tokei_table.specs.RowOf.{row_of}
use Rattle.tokei_count.specs.LineLooks.{HasLineComment}
use Rattle.tokei_count.proofs.SetBits.{all_done, next_within, past_next}
use Rattle.tokei_count.proofs.line_look.all_are_comments.Goals as goal

pub returns-then-left-eq0 : goal.returns-then-left-eq0
returns-then-left-eq0 c = λ is.
    all_done (λ k. bit_at c.args.heads k ≡ 1 → HasLineComment (row_of c.args.syntax.now) c.args.text.now (c.args.from + k)) c.args.heads c.loop-gap.gap
    c.requires.small (λ k low unset set. absurd (omega (arith, unset, set))) c.loop-gap.invariant.each c.if-left-eq0.true

pub line_comment_stands-requires : goal.line_comment_stands-requires
line_comment_stands-requires c = omega (arith, c.requires.within, next_within c.args.heads c.loop-gap.gap c.requires.small c.if-left-eq0.false)

pub loop-gap-preserved : goal.loop-gap-preserved
loop-gap-preserved c = record {
  high = omega (arith, next_within c.args.heads c.loop-gap.gap c.requires.small c.if-left-eq0.false);
  each = past_next (λ k. bit_at c.args.heads k ≡ 1 → HasLineComment (row_of c.args.syntax.now) c.args.text.now (c.args.from + k)) c.args.heads c.loop-gap.gap
      c.requires.small (λ k low unset set. absurd (omega (arith, unset, set))) c.loop-gap.invariant.each c.if-left-eq0.false
      (λ set. record { line = c.line_comment_stands.ensures.line c.if-not-line_comment_stands.false; columns = c.line_comment_stands.ensures.columns c.if-not-line_comment_stands.false });
}

pub returns : goal.returns
returns c = λ is k low set. c.loop-gap.invariant.each k (omega (arith, low, c.loop-gap-test.false)) set
