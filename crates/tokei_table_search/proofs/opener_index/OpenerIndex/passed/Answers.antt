use Rattle.std.proofs.Common.{get_or, arith, ◌+◌}
use Rattle.tokei_table_search.proofs.OpenerGroups.{flag_apart}
use Rattle.tokei_table_search.proofs.opener_index.OpenerIndex.passed.Goals as goal

pub returns-then-width-eq0-clause-none : goal.returns-then-width-eq0-clause-none
returns-then-width-eq0-clause-none c = λ k a h.
    let text = c.args.text.now in
    flag_apart c.args.self.now (get_or text c.args.at 0) c.args.group.now c.requires.group text k
    (omega (arith, h, c.passed.ensures.inside (omega (arith, a, h)))) ((c.type_inv.text (k + 1)).fits)
    (c.passed.ensures.run k a h) (c.passed.ensures.none k a h)
