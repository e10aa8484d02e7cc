use Rattle.std.proofs.Common.{◌≡◌, ◌∙◌, ◌+◌, ◌-◌, take, drop, get_or, subst, sym, true, false, is_some, arith}
use Rattle.std.proofs.lemmas.Bool.Decides.{Decides-eqb}
use Rattle.tokei_embedding.proofs.NextDocs.{NoMarks, no_doc, a_doc, mark_found, marks_to, marks_over, none_before, mark_behind_blanks, none_in_line}
use Rattle.tokei_embedding.specs.DocComments.{front_mark}
use Rattle.tokei_embedding.proofs.next_openings.next_doc.Goals as goal

pub loop-slash-init : goal.loop-slash-init
loop-slash-init c =
    let a = c.args in
    let e = c.first_of_one-slash.ensures in
    record {
      low = e.low;
      high = e.high;
      found = λ l. (Decides-eqb (get_or a.text.now c.first_of_one-slash.result 0) 47).0 (e.found l);
      none = marks_to a.text.now a.at a.to a.at c.first_of_one-slash.result (omega arith) e.high c.requires.ends (λ j l m. absurd (omega (arith, l))) e.passed;
    }

pub loop-slash-preserved : goal.loop-slash-preserved
loop-slash-preserved c =
    let a = c.args in
    let i = c.loop-slash.invariant in
    let slash = c.loop-slash.slash in
    let e = c.first_of_one-slash-in-loop-slash.ensures in
    let none_there : is_some (front_mark (take (a.to - slash) (drop slash a.text.now))) ≡ false =
    mark_found (λ m. m.now) c.front_mark.result (take (a.to - slash) (drop slash a.text.now)) false c.front_mark.ensures (sym c.is_some.ensures ∙ c.if-is_some.false) in
    record {
      low = omega (arith, i.low, e.low);
      high = e.high;
      found = λ l. (Decides-eqb (get_or a.text.now c.first_of_one-slash-in-loop-slash.result 0) 47).0 (e.found l);
      none = marks_to a.text.now a.at a.to (slash + 1) c.first_of_one-slash-in-loop-slash.result (omega (arith, i.low)) e.high c.requires.ends
          (marks_over a.text.now a.at a.to slash (slash + 1) (omega arith) i.low c.loop-slash-test.true i.none none_there) e.passed;
    }

pub returns-then-is_some-clause-none : goal.returns-then-is_some-clause-none
returns-then-is_some-clause-none c = λ p l m.
    let a = c.args in
    let b = c.blanks_start in
    let i = c.loop-slash.invariant in
    no_doc a.text.now a.at a.to p (c.requires.line (omega (arith, l, m, b.ensures.high, i.high))) l (omega (arith, m, b.ensures.high, i.high))
    (none_before a.text.now a.at a.to c.loop-slash.slash b.result p l m b.ensures.high i.high c.requires.ends i.none (b.ensures.first (omega (arith, l, m))))

pub returns-then-is_some-clause-exact : goal.returns-then-is_some-clause-exact
returns-then-is_some-clause-exact c = λ l.
    let a = c.args in
    let b = c.blanks_start in
    let i = c.loop-slash.invariant in
    let slash = c.loop-slash.slash in
    let there : is_some (front_mark (take (a.to - slash) (drop slash a.text.now))) ≡ true =
    mark_found (λ m. m.now) c.front_mark.result (take (a.to - slash) (drop slash a.text.now)) true c.front_mark.ensures (sym c.is_some.ensures ∙ c.if-is_some.true) in
    a_doc a.text.now a.at a.to b.result (c.requires.line (omega (arith, l, b.ensures.low))) b.ensures.low l
    (mark_behind_blanks a.text.now a.at a.to slash b.result b.ensures.low b.ensures.high c.loop-slash-test.true c.requires.ends b.ensures.blank (i.found c.loop-slash-test.true) there)

pub returns-clause-none : goal.returns-clause-none
returns-clause-none c = λ p l m.
    let a = c.args in
    let i = c.loop-slash.invariant in
    let whole : c.loop-slash.slash ≡ a.to = omega (arith, i.high, c.loop-slash-test.false) in
    no_doc a.text.now a.at a.to p (c.requires.line (omega (arith, l, m))) l m
    (none_in_line a.text.now a.at a.to p l m c.requires.ends (subst (λ k. NoMarks (take (a.to - a.at) (drop a.at a.text.now)) (k - a.at)) whole i.none))

pub overflow_add-slash : goal.overflow_add-slash
overflow_add-slash c = omega arith
