-- The statistics of a value, by its members.
use Rattle.std.proofs.Common.{◌≡◌, ℕ, List, [], ◌∷◌, BTreeMap, length, slice_get, Some, unwrap_or, refl, sym, ◌∙◌, ap, ap₂, subst}
use Rattle.tokei_stats.specs.Statistics.{Counts, Statistics, own, blobs, plus, sum, add_all}
use Rattle.tokei_stats.specs.Statistics.Statistics.{node}
use Rattle.tokei_stats.specs.Statistics.Blobs.{none, blob}
use Rattle.tokei_stats.specs.Overflow.{Fits, BlobsFit}
use Rattle.tokei_stats.specs.Seen.{stats_of, stats_step, blobs_of, entries_of, sums_of}
use Rattle.tokei_stats.specs.declared.stats.CodeStats.{CodeStats, out-CodeStats, roll-CodeStats, out-roll-CodeStats, fold_out-CodeStats, fold-roll-CodeStats}
use Rattle.tokei_stats.specs.declared.sums.Sums.{Sums}

-- the blobs are those of the entries
pub blobs_seen : (a : CodeStats) → blobs (stats_of a) ≡ blobs_of (entries_of (out-CodeStats a).blobs.entries)
blobs_seen a = ap blobs (fold_out-CodeStats Statistics stats_step a)

-- and fit where the statistics do
pub blobs_fit : (a : CodeStats) → Fits (stats_of a) → BlobsFit (blobs_of (entries_of (out-CodeStats a).blobs.entries))
blobs_fit a h = (subst Fits (fold_out-CodeStats Statistics stats_step a) h).1

-- where there are no entries there are no blobs
pub no_entries : (a : CodeStats) → length (out-CodeStats a).blobs.entries ≡ 0 → blobs (stats_of a) ≡ none
no_entries a h = blobs_seen a ∙ no_blobs (out-CodeStats a).blobs.entries h
  where
    no_blobs : (es : List (ℕ × CodeStats)) → length es ≡ 0 → blobs_of (entries_of es) ≡ none
    no_blobs [] h = refl
    no_blobs (e ∷ es) h = cc

-- where there is one entry, whose value has the counts n and no blobs, there is just the blob with n
pub one_blob : (a : CodeStats) (k : ℕ) (b : CodeStats) (n : Counts) → length (out-CodeStats a).blobs.entries ≡ 1
    → slice_get (out-CodeStats a).blobs.entries 0 ≡ Some (k, b) → n ≡ own (stats_of b) → blobs (stats_of b) ≡ none
    → blobs (stats_of a) ≡ blob k (node n none) none
one_blob a k b n h first counts empty =
    blobs_seen a ∙ of_entries (out-CodeStats a).blobs.entries h first
    ∙ ap (λ s. blob k s none) (by_members (stats_of b) ∙ ap₂ node (sym counts) empty)
  where
    by_members : (s : Statistics) → s ≡ node (own s) (blobs s)
    by_members (node m bs) = refl

    of_entries : (es : List (ℕ × CodeStats)) → length es ≡ 1 → slice_get es 0 ≡ Some (k, b) → blobs_of (entries_of es) ≡ blob k (stats_of b) none
    of_entries [] h f = cc
    of_entries (e ∷ []) h f = ap (λ o. blob (unwrap_or o e).0 (stats_of (unwrap_or o e).1) none) f
    of_entries (e ∷ d ∷ es) h f = cc

-- the same numbers and blobs that are seen alike
pub copied : (a : CodeStats) (m : BTreeMap ℕ CodeStats) → entries_of m.entries ≡ entries_of (out-CodeStats a).blobs.entries
    → stats_of (roll-CodeStats (record (out-CodeStats a) { blobs = m })) ≡ stats_of a
copied a m h =
    let x = out-CodeStats a in
    fold-roll-CodeStats Statistics stats_step (record x { blobs = m })
    ∙ ap (λ es. node (record { blanks = x.blanks; code = x.code; comments = x.comments }) (blobs_of es)) h
    ∙ sym (fold_out-CodeStats Statistics stats_step a)

-- the blobs set to those of a map
pub with_blobs : (a : CodeStats) (m : BTreeMap ℕ CodeStats)
    → blobs (stats_of (roll-CodeStats (record (out-CodeStats a) { blobs = m }))) ≡ blobs_of (entries_of m.entries)
with_blobs a m = ap blobs (fold-roll-CodeStats Statistics stats_step (record (out-CodeStats a) { blobs = m }))

-- the three numbers set one by one
pub with_counts : (a : CodeStats) (n : Sums)
    → let one = roll-CodeStats (record (out-CodeStats a) { blanks = n.blanks }) in
    let two = roll-CodeStats (record (out-CodeStats one) { code = n.code }) in
    stats_of (roll-CodeStats (record (out-CodeStats two) { comments = n.comments })) ≡ node (sums_of n) (blobs (stats_of a))
with_counts a n =
    let x = record (out-CodeStats a) { blanks = n.blanks } in
    let y = record (out-CodeStats (roll-CodeStats x)) { code = n.code } in
    fold-roll-CodeStats Statistics stats_step (record (out-CodeStats (roll-CodeStats y)) { comments = n.comments })
    ∙ ap (λ z. node (record { blanks = z.blanks; code = z.code; comments = n.comments }) (blobs_of (entries_of z.blobs.entries))) (out-roll-CodeStats y)
    ∙ ap (λ z. node (record { blanks = z.blanks; code = n.code; comments = n.comments }) (blobs_of (entries_of z.blobs.entries))) (out-roll-CodeStats x)
    ∙ ap (node (sums_of n)) (sym (blobs_seen a))

-- a sum by its numbers and its blobs
pub sum_node : (s t : Statistics) → node (plus (own s) (own t)) (add_all (blobs s) (blobs t)) ≡ sum s t
sum_node s (node n bs) = refl
