use Rattle.std.proofs.Common.{subst, IfSome}
use Rattle.tokei_table_row.specs.RowOf.{tokens_of}
use Rattle.tokei_table_search.specs.Tellers.{AreTellers}
use Rattle.tokei_table_search.proofs.opener_index.OpenerIndex.next_first.Goals as goal

pub next_told-requires-clause-told : goal.next_told-requires-clause-told
next_told-requires-clause-told c =
    let openers = tokens_of c.self.inside.openers.items in
    let told : AreTellers c.in-Some.tellers openers =
    subst (λ t. IfSome t (λ s. AreTellers s openers)) c.in-Some.is c.self.invariant.1.1.1 in
    subst (AreTellers c.in-Some.tellers) c.self.view_is told
