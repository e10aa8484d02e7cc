-- The closure answers by the bytes of the names, which order lists.
use Rattle.std.proofs.Common.{◌≡◌, ℕ, List, rules}
use Rattle.std.specs.Ordering.{is_lt}
use Rattle.std.proofs.lemmas.Cmp.{nat_list_cmp_total}
use Rattle.std.proofs.lemmas.Fn.{always_returns_same}
use Rattle.std.proofs.lemmas.List.MinMax.{ranks_by}
use Rattle.tokei_real.specs.Listings.{by_bytes}
use Rattle.tokei_real.proofs.listing.put_names_in_order.Goals as goal

pub returns-clause-sorted : goal.returns-clause-sorted
returns-clause-sorted c =
    c.in_ok-sort_by.ensures.sorted (λ x y. is_lt (by_bytes x y)) (ranks_by nat_list_cmp_total (λ (n : List ℕ). n))
    (always_returns_same _ (λ a r. is_lt r ≡ is_lt (by_bytes a.0.now a.1.0.now)) _ (λ a r f k. search rules))
