-- Each sort puts reports in a strict weak order.
use Rattle.std.proofs.Common.{Bool, nat_lt}
use Rattle.std.specs.Cmp.{IsStrictWeakOrder}
use Rattle.std.proofs.lemmas.Cmp.{nat_list_cmp_total}
use Rattle.std.proofs.lemmas.List.Sorted.{IsStrictWeakOrder-flip, IsStrictWeakOrder-by_number, ranks_by}
use Rattle.tokei_options.specs.declared.sort.Sort.{Sort}
use Rattle.tokei_options.specs.declared.sort.Sort.TheVariants.{Blanks, Comments, Code, Files, Lines}
use Rattle.tokei_stats.specs.Statistics.{lines_of, own}
use Rattle.tokei_languages.specs.Sorting.{puts_first}
use Rattle.tokei_languages.specs.Values.{ReportValue}

pub ranks : (sort : Sort) → IsStrictWeakOrder (puts_first sort)
ranks Blanks = IsStrictWeakOrder-flip (λ r s. nat_lt (own r.stats).blanks (own s.stats).blanks) (IsStrictWeakOrder-by_number (λ (r : ReportValue). (own r.stats).blanks))
ranks Comments = IsStrictWeakOrder-flip (λ r s. nat_lt (own r.stats).comments (own s.stats).comments) (IsStrictWeakOrder-by_number (λ (r : ReportValue). (own r.stats).comments))
ranks Code = IsStrictWeakOrder-flip (λ r s. nat_lt (own r.stats).code (own s.stats).code) (IsStrictWeakOrder-by_number (λ (r : ReportValue). (own r.stats).code))
ranks Files = ranks_by nat_list_cmp_total (λ (r : ReportValue). r.name)
ranks Lines = IsStrictWeakOrder-flip (λ r s. nat_lt (lines_of (own r.stats)) (lines_of (own s.stats))) (IsStrictWeakOrder-by_number (λ (r : ReportValue). lines_of (own r.stats)))

-- an order of what is seen of elements is one of the elements
pub ranks_seen : {X Y : Type 0} (view : X → Y) (before : Y → Y → Bool) → IsStrictWeakOrder before → IsStrictWeakOrder (λ x y. before (view x) (view y))
ranks_seen view before o = record {
  one_way = λ x y. o.one_way (view x) (view y);
  chain = λ x y z. o.chain (view x) (view y) (view z);
}
