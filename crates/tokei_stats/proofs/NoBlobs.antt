-- Where there are no blobs, none is met.
use Rattle.std.proofs.Common.{◌≡◌, ℕ, List, [], ◌∷◌, ◌++◌, sym, ap, ap₂, ◌∙◌, subst}
use Rattle.std.specs.Bool.{⊤}
use Rattle.std.specs.Ordering.{nat_cmp}
use Rattle.std.specs.declared.cmp.Ordering.{Ordering}
use Rattle.std.specs.declared.cmp.Ordering.TheVariants.{Less, Equal, Greater}
use Rattle.tokei_stats.specs.Statistics.{Statistics, Blobs, blobs, by_order, at, put, joined, sum, add_all}
use Rattle.tokei_stats.specs.Statistics.Blobs.{none, blob}
use Rattle.tokei_stats.specs.Seen.{blobs_of, entries_of, stats_of, stats_step}
use Rattle.tokei_stats.specs.declared.stats.CodeStats.{CodeStats, out-CodeStats}
use Rattle.tokei_stats.specs.declared.stats.CodeStats.TheFolds.{fold_out-CodeStats}

abbrev IsBlob : Blobs → Type 0
IsBlob none = ⊥
IsBlob (blob k s rest) = ⊤

put_some : (bs : Blobs) (k : ℕ) (v : Statistics) → IsBlob (put bs k v)
put_some none k v = tt
put_some (blob j s rest) k v = by_cmp (nat_cmp k j)
  where
    by_cmp : (o : Ordering) → IsBlob (by_order o (blob k v (blob j s rest)) (blob j v rest) (blob j s (put rest k v)))
    by_cmp Less = tt
    by_cmp Equal = tt
    by_cmp Greater = tt

still_some : (old bs : Blobs) → IsBlob old → IsBlob (add_all old bs)
still_some old none h = h
still_some old (blob k t rest) h =
    let more : Blobs = put old k (joined (at old k) (λ s. sum s t) t) in
    still_some more rest (put_some old k (joined (at old k) (λ s. sum s t) t))

-- blobs to which one is added aren't none
pub added_some : (old rest whole : Blobs) (k : ℕ) (t : Statistics) → add_all old (blob k t rest) ≡ whole → whole ≡ none → ⊥
added_some old rest whole k t e n =
    let v : Statistics = joined (at old k) (λ s. sum s t) t in
    subst IsBlob (e ∙ n) (still_some (put old k v) rest (put_some old k v))

entry_some : (front : List (ℕ × Statistics)) (e : ℕ × Statistics) (rest : List (ℕ × Statistics)) → IsBlob (blobs_of (front ++ e ∷ rest))
entry_some [] e rest = tt
entry_some (f ∷ front) e rest = tt

-- statistics with an entry have blobs
pub met_some : (s : CodeStats) (front : List (ℕ × Statistics)) (e : ℕ × Statistics) (rest : List (ℕ × Statistics))
    → front ++ e ∷ rest ≡ entries_of (out-CodeStats s).blobs.entries → blobs (stats_of s) ≡ none → ⊥
met_some s front e rest is n =
    let seen : blobs_of (entries_of (out-CodeStats s).blobs.entries) ≡ none = sym (ap blobs (fold_out-CodeStats Statistics stats_step s)) ∙ n in
    subst IsBlob (ap blobs_of is ∙ seen) (entry_some front e rest)

-- no blobs added to none are none
pub none_added : (old more : Blobs) → more ≡ none → old ≡ none → add_all old more ≡ none
none_added old more e n = ap₂ add_all n e
