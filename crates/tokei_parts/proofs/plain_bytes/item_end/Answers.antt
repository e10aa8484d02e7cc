use Rattle.std.proofs.Common.{arith, slice_index}
use Rattle.tokei_parts.proofs.ItemBytes.{comment_byte, string_byte}
use Rattle.tokei_parts.proofs.plain_bytes.item_end.Goals as goal

pub returns-in-DocString : goal.returns-in-DocString
returns-in-DocString c = record {
  low = c.first_of_four.ensures.low;
  high = λ _. c.first_of_four.ensures.high;
  plain = λ p low high.
      string_byte c.args.matchers.now c.args.inner.kind c.args.inner.closer.now (slice_index c.args.text.now p) c.in-DocString.is c.in-len1-up.len_at_least
      (c.first_of_four.ensures.passed p low high);
}

pub returns-in-MultiLineComment-clause-plain : goal.returns-in-MultiLineComment-clause-plain
returns-in-MultiLineComment-clause-plain c = λ p low high.
    comment_byte c.args.matchers.now c.args.inner.kind c.args.inner.closer.now (slice_index c.args.text.now p) c.in-MultiLineComment.is c.in-len1-up.len_at_least
    (c.comment_end.ensures.none p low high) (c.comment_end.ensures.open p low high)

pub returns-in-MultiLineComment-clause-high : goal.returns-in-MultiLineComment-clause-high
returns-in-MultiLineComment-clause-high c = λ _. c.comment_end.ensures.high

pub returns-in-empty-clause-plain : goal.returns-in-empty-clause-plain
returns-in-empty-clause-plain c = λ p low high. absurd (omega (arith, low, high))

pub returns-in-empty-clause-high : goal.returns-in-empty-clause-high
returns-in-empty-clause-high c = λ low. absurd (omega (arith, low))
