use Rattle.std.proofs.Common.{◌<◌, ◌∙◌, refl, sym, slice_index, arith}
use Rattle.tokei_parts.specs.PlainBytes.{BeginsNone}
use Rattle.tokei_parts.proofs.CodeHeads.{blank_front, blanks, code_front, solid_part}
use Rattle.tokei_parts.proofs.class.class_by_front.Goals as goal

pub returns-then-stop-solid-clause-blank : goal.returns-then-stop-solid-clause-blank
returns-then-stop-solid-clause-blank c _ =
    blank_front c.args.text.now c.args.start c.args.stop c.args.stop c.requires.order (omega arith)
    c.requires.within
    (λ p low high. c.requires.solid p low (omega (arith, high, c.if-stop-solid.true)))
    (λ below. absurd (omega (arith, below))) refl

pub returns-then-head-stop-clause-blank : goal.returns-then-head-stop-clause-blank
returns-then-head-stop-clause-blank c _ =
    let e = c.blanks_end-head.ensures in
    blank_front c.args.text.now c.args.start c.args.stop c.blanks_end-head.result
    (omega (arith, c.requires.low, e.low)) e.high c.requires.within
    (blanks c.args.text.now c.args.start c.args.solid c.blanks_end-head.result c.requires.solid
    e.blank)
    e.found c.if-head-stop.true

pub returns-clause-code : goal.returns-clause-code
returns-clause-code c _ =
    let e = c.blanks_end-head.ensures in
    let first : BeginsNone c.args.matchers.now (slice_index c.args.text.now c.args.start) = record {
      small = (c.type_inv.text c.args.start).fits;
      outside = sym c.begins.ensures ∙ c.if-begins.false;
    } in
    let head : BeginsNone c.args.matchers.now (slice_index c.args.text.now c.blanks_end-head.result) = record {
      small = (c.type_inv.text c.blanks_end-head.result).fits;
      outside = sym c.begins-else-begins.ensures ∙ c.if-begins-2.false;
    } in
    code_front c.args.text.now c.args.start c.args.stop c.blanks_end-head.result
    (omega (arith, c.requires.low, e.low)) e.high c.requires.within
    (blanks c.args.text.now c.args.start c.args.solid c.blanks_end-head.result c.requires.solid
    e.blank)
    e.found c.args.matchers.now (omega (arith, c.if-head-stop.false, e.high)) first head

pub returns-then-begins-clause-solid : goal.returns-then-begins-clause-solid
returns-then-begins-clause-solid c _ =
    let e = c.blanks_end-head.ensures in
    let below : c.blanks_end-head.result < c.args.stop = omega (arith, c.if-head-stop.false, e.high) in
    solid_part c.args.text.now c.args.start c.args.stop c.blanks_end-head.result
    (omega (arith, c.requires.low, e.low)) below c.requires.within (e.found below)
