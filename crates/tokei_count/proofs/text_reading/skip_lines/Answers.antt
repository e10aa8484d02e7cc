use Rattle.std.proofs.Common.{◌≤◌, ℕ, List, refl, sym, ap, ◌∙◌}
use Rattle.std.proofs.lemmas.Result.{on_ok_weaker}
use Rattle.std.specs.Global.{Vec}
use Rattle.tokei_parts.specs.Modes.{innermost}
use Rattle.tokei_parts.specs.Seen.{chain_of}
use Rattle.tokei_parts.proofs.LineEnds.{end_later}
use Rattle.tokei_parts.specs.declared.items.Enclosure.{Enclosure}
use Rattle.tokei_count.proofs.Refusals.{answered}
use Rattle.tokei_count.proofs.Skipping.{goes_on, no_item, one_way, walked_within}
use Rattle.tokei_count.proofs.StepReading.{knows_later}
use Rattle.tokei_count.proofs.text_reading.skip_lines.Goals as goal

pub returns-then-not-reading : goal.returns-then-not-reading
returns-then-not-reading c =
    let e = c.in_ok-end.ensures in record {
      under_way = e.under_way;
      known = knows_later _ c.args.reading.now.text.now c.args.so_far.now.start c.read_near.new.so_far.start c.args.next.now e.low c.requires.known;
      on = e.low;
      end = c.line_end.ensures;
      walked = λ skipped some. absurd (one_way _ skipped c.if-not-reading.true);
      quiet = λ skipped none. refl;
      overflow = λ is fits. answered _ _ is;
    }

pub skip_within-requires-clause-within : goal.skip_within-requires-clause-within
skip_within-requires-clause-within c = sym (c.in-Some.ensures ∙ ap (λ (s : List Enclosure). innermost (chain_of s)) c.deref.ensures.value)

pub returns-in_err-clear-clause-quiet : goal.returns-in_err-clear-clause-quiet
returns-in_err-clear-clause-quiet c = λ skipped none. absurd (no_item _ _ (c.in-Some.ensures ∙ ap (λ (s : List Enclosure). innermost (chain_of s)) c.deref.ensures.value)
    (c.in_ok-end.ensures.under_way.quiet skipped none).0 refl)

pub returns-in-Some : goal.returns-in-Some
returns-in-Some c =
    let start : ℕ = c.args.so_far.now.start in
    let near = c.in_ok-end.ensures in
    let e = c.in_ok-clear.ensures in
    let low : start ≤ c.skip_within.new.so_far.start = goes_on start c.read_near.new.so_far.start c.skip_within.new.so_far.start near.low e.low in record {
      under_way = e.under_way;
      known = knows_later _ c.args.reading.now.text.now start c.skip_within.new.so_far.start c.args.next.now low c.requires.known;
      on = low;
      end = c.line_end-in-Some.ensures;
      walked = λ skipped some. walked_within _ _ _ _ (c.in-Some.ensures ∙ ap (λ (s : List Enclosure). innermost (chain_of s)) c.deref.ensures.value
          ∙ ap (λ (v : Vec Enclosure). innermost (chain_of v.items)) (sym e.same)) refl;
      quiet = λ skipped none. refl;
      overflow = λ is fits. answered _ _ is;
    }

pub line_end-requires-in-Some : goal.line_end-requires-in-Some
line_end-requires-in-Some c =
    let text : List ℕ = c.args.reading.now.text.now in
    let near = c.in_ok-end.ensures in
    let from : ℕ = c.read_near.new.so_far.start in
    let e = c.in_ok-clear.ensures in record {
      start = e.under_way.within;
      known = λ high. end_later text from c.skip_within.new.so_far.start c.in_ok-end.end e.low
          (near.line (goes_on from c.skip_within.new.so_far.start c.in_ok-end.end e.low high)) high;
      behind = e.behind;
      clear = e.clear;
    }

pub skip_far_lines-requires-clause-known : goal.skip_far_lines-requires-clause-known
skip_far_lines-requires-clause-known c =
    knows_later _ c.args.reading.now.text.now c.args.so_far.now.start c.read_near.new.so_far.start c.args.next.now c.in_ok-end.ensures.low c.requires.known

pub returns-clause-on : goal.returns-clause-on
returns-clause-on c = on_ok_weaker c.skip_far_lines.result
    (goes_on c.args.so_far.now.start c.read_near.new.so_far.start c.skip_far_lines.new.so_far.start c.in_ok-end.ensures.low) c.skip_far_lines.ensures.on
