use Rattle.std.proofs.Common.{ℕ, List, length, refl, sym, ap, ◌∙◌}
use Rattle.tokei_parts.proofs.LineEnds.{end_is, end_later, end_within}
use Rattle.tokei_count.specs.NoComments.{has_no_comments}
use Rattle.tokei_count.proofs.Refusals.{answered}
use Rattle.tokei_count.proofs.Skipping.{ends_above, ends_here, ends_known, ends_over, ends_walked, goes_from, goes_on, one_way, stays, stays_below}
use Rattle.tokei_count.proofs.UnderWay.{walked_behind}
use Rattle.tokei_count.proofs.text_reading.skip_far_lines.Goals as goal

pub next_opener-to-requires : goal.next_opener-to-requires
next_opener-to-requires c = record { start = c.requires.under_way.within; known = c.requires.known }

pub count_lines_left-requires : goal.count_lines_left-requires
count_lines_left-requires c = record {
  skips = c.requires.skips;
  under_way = c.requires.under_way;
  plain = c.requires.plain;
  none = sym c.if-to-reading.true ∙ c.next_opener-to.ensures.place;
  bare = sym (c.has_no_comments.ensures ∙ ap has_no_comments c.args.reading.now.row) ∙ c.if-has_no_comments.true;
}

pub returns-in_err-count_lines_left-clause-quiet : goal.returns-in_err-count_lines_left-clause-quiet
returns-in_err-count_lines_left-clause-quiet c = λ none. absurd (one_way _ (c.in_err-count_lines_left.ensures.quiet none) refl)

pub returns-then-has_no_comments : goal.returns-then-has_no_comments
returns-then-has_no_comments c =
    let n : ℕ = length c.args.reading.now.text.now in
    let to : ℕ = c.next_opener-to.result in
    let at : ℕ = c.count_lines_left.new.so_far.start in
    let e = c.in_ok-count_lines_left.ensures in record {
      under_way = e.under_way;
      known = ends_known _ c.args.reading.now.text.now at to e.end c.if-to-reading.true;
      on = ends_above c.args.so_far.now.start at n c.requires.under_way.within e.end;
      end = ends_here c.args.reading.now.text.now at to e.end c.if-to-reading.true;
      walked = λ some. ends_walked at n _ e.end some;
      quiet = λ none. refl;
      overflow = λ is fits. answered _ _ is;
    }

pub count_clear_lines-requires : goal.count_clear_lines-requires
count_clear_lines-requires c = record {
  skips = c.requires.skips;
  under_way = c.requires.under_way;
  plain = c.requires.plain;
  next = c.next_opener-to.ensures.place;
  low = goes_from c.args.so_far.now.start c.next_opener-to.result _ c.next_opener-to.ensures.place;
  within = c.next_opener-to.ensures.within;
}

pub line_end-end-requires : goal.line_end-end-requires
line_end-end-requires c =
    let e = c.in_ok-count_clear_lines.ensures in
    let text : List ℕ = c.args.reading.now.text.now in
    let start : ℕ = c.args.so_far.now.start in record {
      start = e.under_way.within;
      known = λ high. end_later text start c.count_clear_lines.new.so_far.start c.args.end e.low
          (c.requires.line (goes_on start c.count_clear_lines.new.so_far.start c.args.end e.low high)) high;
      behind = stays _;
      clear = stays_below _ _;
    }

pub line_stop-requires : goal.line_stop-requires
line_stop-requires c = end_within c.args.reading.now.text.now c.count_clear_lines.new.so_far.start c.line_end-end.result
    c.in_ok-count_clear_lines.ensures.under_way.within c.line_end-end.ensures

pub returns-then-to-line_stop : goal.returns-then-to-line_stop
returns-then-to-line_stop c =
    let text : List ℕ = c.args.reading.now.text.now in
    let at : ℕ = c.count_clear_lines.new.so_far.start in
    let e = c.in_ok-count_clear_lines.ensures in record {
      under_way = e.under_way;
      known = λ low. e.next;
      on = e.low;
      end = c.line_end-end.ensures;
      walked = λ some. walked_behind c.args.reading.now c.count_clear_lines.new.so_far c.next_opener-to.result e.under_way e.plain e.next
          (ends_over c.next_opener-to.result c.line_stop.result _ c.if-to-line_stop.true
          (end_is text at c.line_end-end.result c.line_stop.result e.under_way.within c.line_end-end.ensures c.line_stop.ensures.more c.line_stop.ensures.last));
      quiet = λ none. refl;
      overflow = λ is fits. answered _ _ is;
    }

pub count_lines-requires : goal.count_lines-requires
count_lines-requires c =
    let e = c.in_ok-count_clear_lines.ensures in record {
      skips = c.requires.skips;
      under_way = e.under_way;
      plain = e.plain;
      next = e.next;
      within = c.next_opener-to.ensures.within;
      first = c.line_end-end.ensures;
    }

pub returns : goal.returns
returns c =
    let first = c.in_ok-count_clear_lines.ensures in
    let e = c.in_ok-end.ensures in record {
      under_way = e.under_way;
      known = λ low. e.next;
      on = goes_on c.args.so_far.now.start c.count_clear_lines.new.so_far.start c.count_lines.new.so_far.start first.low e.low;
      end = e.end;
      walked = λ some. walked_behind c.args.reading.now c.count_lines.new.so_far c.next_opener-to.result e.under_way e.plain e.next (e.more some);
      quiet = λ none. refl;
      overflow = λ is fits. answered _ _ is;
    }
