-- Adding entry by entry.
use Rattle.std.proofs.Common.{◌≡◌, ℕ, cond, List, [], ◌∷◌, Option, Some, option_map, refl, sym, ◌∙◌, ap, subst}
use Rattle.std.specs.Ordering.{nat_cmp, match_ordering, is_eq}
use Rattle.std.specs.declared.cmp.Ordering.{Ordering}
use Rattle.std.specs.declared.cmp.Ordering.TheVariants.{Less, Equal, Greater}
use Rattle.std.specs.Map.{lookup}
use Rattle.std.specs.BTreeMap.{insert_entry, is_at}
use Rattle.tokei_stats.specs.Statistics.{Statistics, Blobs, put, at, by_order, joined, sum, add_all}
use Rattle.tokei_stats.specs.Overflow.{Fits, BlobsFit}
use Rattle.tokei_stats.specs.Statistics.Blobs.{blob}
use Rattle.tokei_stats.specs.Seen.{stats_of, blobs_of, entries_of}
use Rattle.tokei_stats.specs.declared.stats.CodeStats.{CodeStats}
use Rattle.tokei_stats.proofs.Cloning.{insert_seen}
use Rattle.tokei_stats.proofs.Fitting.{put-value, put-fits, all-left}

put_by : (o : Ordering) (k j : ℕ) (s t : Statistics) (es more : List (ℕ × Statistics)) (r : Blobs) → r ≡ blobs_of more
    → by_order o (blob k t (blob j s (blobs_of es))) (blob j t (blobs_of es)) (blob j s r) ≡ blobs_of (match_ordering o ((k, t) ∷ (j, s) ∷ es) ((j, t) ∷ es) ((j, s) ∷ more))
put_by Less k j s t es more r h = refl
put_by Equal k j s t es more r h = refl
put_by Greater k j s t es more r h = ap (blob j s) h

put_seen : (es : List (ℕ × Statistics)) (k : ℕ) (t : Statistics) → put (blobs_of es) k t ≡ blobs_of (insert_entry nat_cmp es k t)
put_seen [] k t = refl
put_seen (e ∷ es) k t = put_by (nat_cmp k e.0) k e.0 e.1 t es (insert_entry nat_cmp es k t) (put (blobs_of es) k t) (put_seen es k t)

at_by : (o : Ordering) (s : CodeStats) (r : Option Statistics) (q : Option CodeStats) → r ≡ option_map stats_of q → by_order o r (Some (stats_of s)) r ≡ option_map stats_of (cond (is_eq o) (Some s) q)
at_by Less s r q h = h
at_by Equal s r q h = refl
at_by Greater s r q h = h

at_seen : (es : List (ℕ × CodeStats)) (k : ℕ) → at (blobs_of (entries_of es)) k ≡ option_map stats_of (lookup (is_at (nat_cmp k)) es)
at_seen [] k = refl
at_seen (e ∷ es) k = at_by (nat_cmp k e.0) e.1 (at (blobs_of (entries_of es)) k) (lookup (is_at (nat_cmp k)) es) (at_seen es k)

pub at_entries : (es : List (ℕ × CodeStats)) (k : ℕ) → at (blobs_of (entries_of es)) k ≡ option_map stats_of (lookup (is_at (nat_cmp k)) es)
at_entries es k = at_seen es k

-- what is put at a language
pub put_one : (old new : List (ℕ × CodeStats)) (k : ℕ) (v : CodeStats) (t : Statistics)
    → stats_of v ≡ joined (option_map stats_of (lookup (is_at (nat_cmp k)) old)) (λ s. sum s t) t
    → new ≡ insert_entry nat_cmp old k v
    → blobs_of (entries_of new) ≡ put (blobs_of (entries_of old)) k (joined (at (blobs_of (entries_of old)) k) (λ s. sum s t) t)
put_one old new k v t e f =
    ap (λ es. blobs_of (entries_of es)) f ∙ ap blobs_of (insert_seen old k v) ∙ sym (put_seen (entries_of old) k (stats_of v))
    ∙ ap (put (blobs_of (entries_of old)) k) (e ∙ ap (λ o. joined o (λ s. sum s t) t) (sym (at_seen old k)))

-- what one turn of the loop does
pub add_one : (old new rest : List (ℕ × CodeStats)) (k : ℕ) (v w : CodeStats)
    → stats_of v ≡ joined (option_map stats_of (lookup (is_at (nat_cmp k)) old)) (λ s. sum s (stats_of w)) (stats_of w)
    → new ≡ insert_entry nat_cmp old k v
    → add_all (blobs_of (entries_of new)) (blobs_of (entries_of rest)) ≡ add_all (blobs_of (entries_of old)) (blobs_of (entries_of ((k, w) ∷ rest)))
add_one old new rest k v w e f =
    ap (λ bs. add_all bs (blobs_of (entries_of rest)))
    (ap (λ es. blobs_of (entries_of es)) f ∙ ap blobs_of (insert_seen old k v) ∙ sym (put_seen (entries_of old) k (stats_of v))
    ∙ ap (put (blobs_of (entries_of old)) k) (e ∙ ap (λ o. joined o (λ s. sum s (stats_of w)) (stats_of w)) (sym (at_seen old k))))

-- a map that fits, into which what fits was put
pub put_one_fits : (old new : List (ℕ × CodeStats)) (k : ℕ) (v : CodeStats)
    → new ≡ insert_entry nat_cmp old k v → Fits (stats_of v) → BlobsFit (blobs_of (entries_of old))
    → BlobsFit (blobs_of (entries_of new))
put_one_fits old new k v f h bs =
    let is : blobs_of (entries_of new) ≡ put (blobs_of (entries_of old)) k (stats_of v) =
    ap (λ es. blobs_of (entries_of es)) f ∙ ap blobs_of (insert_seen old k v)
    ∙ sym (put_seen (entries_of old) k (stats_of v)) in
    subst BlobsFit (sym is) (put-fits (blobs_of (entries_of old)) k (stats_of v) bs h)

-- where all fits, so does the sum of a turn of the loop
pub turn_fits : (old rest : List (ℕ × CodeStats)) (k : ℕ) (v w : CodeStats) → lookup (is_at (nat_cmp k)) old ≡ Some v
    → BlobsFit (add_all (blobs_of (entries_of old)) (blobs_of (entries_of ((k, w) ∷ rest)))) → Fits (sum (stats_of v) (stats_of w))
turn_fits old rest k v w e h =
    let both : Statistics = joined (at (blobs_of (entries_of old)) k) (λ s. sum s (stats_of w)) (stats_of w) in
    subst (λ o. Fits (joined o (λ s. sum s (stats_of w)) (stats_of w))) (at_seen old k ∙ ap (option_map stats_of) e)
    (put-value (blobs_of (entries_of old)) k both (all-left (put (blobs_of (entries_of old)) k both) (blobs_of (entries_of rest)) h))
