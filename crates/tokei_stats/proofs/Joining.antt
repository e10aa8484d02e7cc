-- A value that is found at its language and set to a sum.
use Rattle.std.proofs.Common.{◌≡◌, ◌∙◌, ℕ, List, ap, sym, subst, option_map, Some, unwrap_or, BTreeMap, nat_cmp}
use Rattle.std.specs.Map.{keys_of, lookup, set_value}
use Rattle.std.specs.BTreeMap.{is_at}
use Rattle.std.specs.List.Sorted.{IsStrictlySortedBy}
use Rattle.tokei_stats.specs.Statistics.{Counts, Statistics, blobs, plus, at, joined, put, sum, add_all}
use Rattle.tokei_stats.specs.Statistics.Statistics.{node}
use Rattle.tokei_stats.specs.Statistics.Blobs.{none, blob}
use Rattle.tokei_stats.specs.Overflow.{CountsFit, Fits, BlobsFit}
use Rattle.tokei_stats.specs.Seen.{blobs_of, entries_of, stats_of, counts_of}
use Rattle.tokei_stats.specs.declared.stats.CodeStats.{CodeStats, out-CodeStats, roll-CodeStats}
use Rattle.tokei_stats.proofs.Adding.{put_one, at_entries}
use Rattle.tokei_stats.proofs.BlobsSet.{set_inserts}
use Rattle.tokei_stats.proofs.Fitting.{blobs-fit, put-value}
use Rattle.tokei_stats.proofs.Members.{blobs_seen, with_blobs}

-- The language k has the value v, and t is added to it.
module _ (old : List (ℕ × CodeStats)) (k : ℕ) (v : CodeStats) (t : Statistics) (there : Some v ≡ lookup (is_at (nat_cmp k)) old) where
  -- where the sum is set, the blobs are those with t joined at the language
  pub joined_there : (new : List (ℕ × CodeStats)) (w : CodeStats) → new ≡ set_value (is_at (nat_cmp k)) old w
      → IsStrictlySortedBy nat_cmp (keys_of old) → stats_of w ≡ sum (stats_of v) t
      → blobs_of (entries_of new) ≡ put (blobs_of (entries_of old)) k (joined (at (blobs_of (entries_of old)) k) (λ s. sum s t) t)
  joined_there new w set sorted e =
      put_one old new k w t (e ∙ ap (λ o. joined (option_map stats_of o) (λ s. sum s t) t) there)
      (set ∙ set_inserts old k v w sorted (sym there))

  -- where what is joined fits, so does the sum
  pub fits_there : Fits (joined (at (blobs_of (entries_of old)) k) (λ s. sum s t) t) → Fits (sum (stats_of v) t)
  fits_there = subst (λ o. Fits (joined o (λ s. sum s t) t)) (at_entries old k ∙ ap (option_map stats_of) (sym there))

-- where a sum with just one blob fits, so do the counts of what is there and that blob's, added up
pub counts_fit_there : (a : CodeStats) (s : Statistics) (k : ℕ) (v : CodeStats) (m n : Counts)
    → Some v ≡ lookup (is_at (nat_cmp k)) (out-CodeStats a).blobs.entries → m ≡ counts_of v
    → blobs s ≡ blob k (node n none) none → Fits (sum (stats_of a) s) → CountsFit (plus m n)
counts_fit_there a s k v m n there mine only fits =
    let old : List (ℕ × CodeStats) = (out-CodeStats a).blobs.entries in
    let t : Statistics = node n none in
    let all : BlobsFit (add_all (blobs_of (entries_of old)) (blob k t none)) =
    subst (λ bs. BlobsFit (add_all bs (blob k t none))) (blobs_seen a)
    (subst (λ bs. BlobsFit (add_all (blobs (stats_of a)) bs)) only (blobs-fit (stats_of a) s fits)) in
    subst (λ x. CountsFit (plus x n)) (sym mine)
    (fits_there old k v t there
    (put-value (blobs_of (entries_of old)) k (joined (at (blobs_of (entries_of old)) k) (λ r. sum r t) t) all)).0

-- the blobs of u with the counts of v, which is u, and n added up are the sum of v and n
counts_added : (u v : CodeStats) (m n p : Counts) → Some u ≡ Some v → m ≡ counts_of v → p ≡ plus m n
    → node p (blobs (stats_of u)) ≡ sum (stats_of v) (node n none)
counts_added u v m n p same mine e =
    ap (λ o. node p (blobs (stats_of (unwrap_or o u)))) same ∙ ap (λ x. node x (blobs (stats_of v))) (e ∙ ap (λ x. plus x n) mine)

-- where the one blob's counts are added to those of what is there, all blobs are added
pub one_joined : (a : CodeStats) (s : Statistics) (k : ℕ) (u v w : CodeStats) (m n p : Counts) (new : BTreeMap ℕ CodeStats)
    → Some u ≡ lookup (is_at (nat_cmp k)) (out-CodeStats a).blobs.entries
    → Some v ≡ lookup (is_at (nat_cmp k)) (out-CodeStats a).blobs.entries
    → new.entries ≡ set_value (is_at (nat_cmp k)) (out-CodeStats a).blobs.entries w
    → IsStrictlySortedBy nat_cmp (keys_of (out-CodeStats a).blobs.entries)
    → stats_of w ≡ node p (blobs (stats_of u)) → p ≡ plus m n → m ≡ counts_of v → blobs s ≡ blob k (node n none) none
    → blobs (stats_of (roll-CodeStats (record (out-CodeStats a) { blobs = new }))) ≡ add_all (blobs (stats_of a)) (blobs s)
one_joined a s k u v w m n p new here there set sorted e sums mine only =
    let t : Statistics = node n none in
    with_blobs a new
    ∙ joined_there (out-CodeStats a).blobs.entries k v t there new.entries w set sorted (e ∙ counts_added u v m n p (here ∙ sym there) mine sums)
    ∙ ap (λ bs. add_all bs (blob k t none)) (sym (blobs_seen a))
    ∙ ap (add_all (blobs (stats_of a))) (sym only)
