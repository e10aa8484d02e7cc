use Rattle.std.proofs.Common.{◌<◌, length, sym, ◌∙◌, arith}
use Rattle.tokei_table_search.proofs.FirstPlaces.{first_at, first_none}
use Rattle.tokei_table_search.proofs.OpenerGroups.{none_up_to, none_behind}
use Rattle.tokei_table_search.proofs.opener_index.OpenerIndex.first_in.Goals as goal
use Rattle.tokei_table_search.proofs.opener_index.OpenerIndex.first_in.Goals.{then-at-from-lt-CLOSE, else-at-from-lt-CLOSE}

pub returns-then-at-text : goal.returns-then-at-text
returns-then-at-text c =
    let before = none_up_to c.args.self.now c.args.text.now c.loop-from.from c.next_first-at.result
    c.loop-from.invariant.none c.next_first-at.ensures.none in
    first_none c.args.self.now c.args.text.now (λ k h. before k (omega (arith, h, c.if-at-text.true)))

pub returns-then-stands : goal.returns-then-stands
returns-then-stands c =
    let at = c.next_first-at.result in
    let inside : at < length c.args.text.now = omega (arith, c.next_first-at.ensures.within, c.if-at-text.false) in
    first_at c.args.self.now c.args.text.now at inside
    (none_up_to c.args.self.now c.args.text.now c.loop-from.from at c.loop-from.invariant.none
    c.next_first-at.ensures.none)
    (sym c.stands.ensures ∙ c.if-stands.true)

pub loop-from-preserved-else-stands : goal.loop-from-preserved-else-stands
loop-from-preserved-else-stands c =
    let at = c.next_first-at.result in
    let text = c.args.text.now in
    let os = c.args.self.now in
    record {
      within = c.passed-from.ensures.within;
      none = none_behind os text at c.passed-from.result
          (none_up_to os text c.loop-from.from at c.loop-from.invariant.none c.next_first-at.ensures.none)
          (sym c.stands.ensures ∙ c.if-stands.false)
          c.passed-from.ensures.none;
      narrow = elim c.if-at-from-lt-CLOSE.branch [
        | then-at-from-lt-CLOSE w ↦ omega (arith, w.min-width.ensures, w.width-is)
        | else-at-from-lt-CLOSE w ↦ omega (arith, w.width-is)
      ];
    }

pub returns : goal.returns
returns c = first_none c.args.self.now c.args.text.now
    (λ k h. c.loop-from.invariant.none k (omega (arith, h, c.loop-from-test.false)))
