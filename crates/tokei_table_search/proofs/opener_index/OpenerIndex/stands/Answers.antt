use Rattle.std.proofs.Common.{sym, ◌∙◌, ◌+◌, get_or, refl}
use Rattle.tokei_table_search.proofs.OpenerGroups.{flag_apart, flag_stands}
use Rattle.tokei_table_search.proofs.opener_index.OpenerIndex.stands.Goals as goal

pub returns-then-has : goal.returns-then-has
returns-then-has c =
    let text = c.args.text.now in
    let at = c.args.at in
    sym (flag_stands c.args.self.now (get_or text at 0) c.args.group.now c.requires.group text at c.if-at-text.true
    ((c.type_inv.text (at + 1)).fits) refl (sym c.has.ensures ∙ c.if-has.true))

pub returns-then-not-has : goal.returns-then-not-has
returns-then-not-has c =
    let text = c.args.text.now in
    let at = c.args.at in
    sym (flag_apart c.args.self.now (get_or text at 0) c.args.group.now c.requires.group text at c.if-at-text.true
    ((c.type_inv.text (at + 1)).fits) refl (sym c.has-then-at-text.ensures ∙ c.if-not-has.true))
