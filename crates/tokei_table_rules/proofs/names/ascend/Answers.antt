use Rattle.std.proofs.Common.{rules}
use Rattle.std.proofs.lemmas.List.Sorted.{answers_always}
use Rattle.std.specs.Cmp.Lexicographic.{slice_cmp}
use Rattle.std.specs.Ordering.{is_lt, nat_cmp}
use Rattle.tokei_table_rules.proofs.names.ascend.Goals as goal

pub returns : goal.returns
returns c =
    c.is_sorted_by.ensures.cases (λ x y. is_lt (slice_cmp nat_cmp x.now y.now))
    (answers_always _ _ _ (λ f a r f' called. search rules))
