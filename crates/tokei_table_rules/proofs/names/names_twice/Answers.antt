use Rattle.std.proofs.Common.{◌≡◌, ◌++◌, ◌∙◌, ap, map, subst}
use Rattle.std.specs.Cmp.Lexicographic.{slice_cmp}
use Rattle.std.specs.List.{IsAllAdjacentAnswer}
use Rattle.std.specs.Ordering.{is_lt, nat_cmp}
use Rattle.tokei_table_row.specs.RowOf.{row_of}
use Rattle.tokei_table_rules.specs.MetNames.{words_of}
use Rattle.tokei_table_rules.specs.RowNames.{keys_of, other_names_of}
use Rattle.tokei_table_rules.proofs.SortedNames.{found_in_order}
use Rattle.tokei_table_rules.proofs.names.names_twice.Goals as goal

pub returns : goal.returns
returns c =
    let rs = map row_of c.args.rows.now in
    found_in_order rs c.add_other_names.new.texts.items c.sort.new.self.items c.ascend.result
    (c.in_ok-add_other_names.ensures ∙ ap (λ ks. ks ++ other_names_of rs)
    (c.in_ok-add_keys.ensures ∙ ap (λ ts. words_of ts ++ keys_of rs) c.in_ok-texts.ensures.items))
    c.sort.ensures.permutation c.in_ok-sort.ensures.sorted
    (subst (λ ts. IsAllAdjacentAnswer (λ x y b. b ≡ is_lt (slice_cmp nat_cmp x.now y.now)) ts c.ascend.result)
    c.deref.ensures.value c.ascend.ensures)
