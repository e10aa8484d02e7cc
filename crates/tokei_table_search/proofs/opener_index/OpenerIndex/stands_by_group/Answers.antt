use Rattle.std.proofs.Common.{sym, ◌∙◌, ◌+◌}
use Rattle.tokei_table_search.proofs.OpenerGroups.{flag_stands}
use Rattle.tokei_table_search.proofs.opener_index.OpenerIndex.stands_by_group.Goals as goal

pub returns-then-has : goal.returns-then-has
returns-then-has c =
    let text = c.args.text.now in
    let at = c.args.at in
    sym (flag_stands c.args.self.now c.args.byte c.args.group.now c.requires.group text at c.if-at-text.true
    ((c.type_inv.text (at + 1)).fits) c.if-text-at.false (sym c.has.ensures ∙ c.if-has.true))
