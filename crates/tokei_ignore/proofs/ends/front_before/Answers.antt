use Rattle.std.proofs.Common.{◌≡◌, ◌==◌, sym, ap, ◌∙◌, eq-eqb, false, arith}
use Rattle.std.proofs.lemmas.Bool.Decides.{nat_tests}
use Rattle.tokei_folders.specs.Ends.{ends_in, without_last}
use Rattle.tokei_folders.proofs.ListEnds.{ends_in-push, without_last-push}
use Rattle.tokei_ignore.proofs.ends.front_before.Goals as goal

pub returns-then-last-end : goal.returns-then-last-end
returns-then-last-end c =
    let is = c.in-Some.ensures.cases.0 in (
      ap (ends_in c.args.end) is ∙ ends_in-push c.args.end c.in-Some.last.now c.in-Some.front.now ∙ eq-eqb c.in-Some.last.now c.args.end c.if-last-end.true,
      sym (ap without_last is ∙ without_last-push c.in-Some.front.now c.in-Some.last.now),
    )

pub returns-else-last-end : goal.returns-else-last-end
returns-else-last-end c =
    let other : (c.in-Some.last.now == c.args.end) ≡ false = grind (arith, nat_tests) in
    ap (ends_in c.args.end) c.in-Some.ensures.cases.0 ∙ ends_in-push c.args.end c.in-Some.last.now c.in-Some.front.now ∙ other
