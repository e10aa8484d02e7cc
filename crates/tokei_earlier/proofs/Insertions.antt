-- An insertion into a map, as it is seen.
use Rattle.std.proofs.Common.{◌≡◌, ℕ, List, [], ◌∷◌, map, refl, ap, ◌∙◌}
use Rattle.std.specs.Ordering.{nat_cmp, match_ordering}
use Rattle.std.specs.declared.cmp.Ordering.{Ordering}
use Rattle.std.specs.declared.cmp.Ordering.TheVariants.{Less, Equal, Greater}
use Rattle.std.specs.BTreeMap.{insert_entry}
use Rattle.std.specs.Map.{keys_of}
use Rattle.tokei_stats.specs.Seen.{blobs_of, entries_of, stats_of}
use Rattle.tokei_stats.specs.Statistics.{Statistics, Blobs, by_order, put}
use Rattle.tokei_stats.specs.Statistics.Blobs.{blob}
use Rattle.tokei_stats.specs.declared.stats.CodeStats.{CodeStats}

module _ {V S : Type 0} (seen : V → S) where
  abbrev all_seen : List (ℕ × V) → List (ℕ × S)
  all_seen es = map (λ e. (e.0, seen e.1)) es

  insert_by : (o : Ordering) (k : ℕ) (v : V) (e : ℕ × V) (es more : List (ℕ × V)) (later : List (ℕ × S)) → all_seen more ≡ later
      → all_seen (match_ordering o ((k, v) ∷ e ∷ es) ((e.0, v) ∷ es) (e ∷ more))
      ≡ match_ordering o ((k, seen v) ∷ all_seen (e ∷ es)) ((e.0, seen v) ∷ all_seen es) ((e.0, seen e.1) ∷ later)
  insert_by Less k v e es more later h = refl
  insert_by Equal k v e es more later h = refl
  insert_by Greater k v e es more later h = ap (λ fs. (e.0, seen e.1) ∷ fs) h

  -- an insertion is seen as one
  pub insert_seen : (es : List (ℕ × V)) (k : ℕ) (v : V) → map (λ e. (e.0, seen e.1)) (insert_entry nat_cmp es k v) ≡ insert_entry nat_cmp (map (λ e. (e.0, seen e.1)) es) k (seen v)
  insert_seen [] k v = refl
  insert_seen (e ∷ es) k v = insert_by (nat_cmp k e.0) k v e es (insert_entry nat_cmp es k v) (insert_entry nat_cmp (all_seen es) k (seen v)) (insert_seen es k v)

put_by : (o : Ordering) (k j : ℕ) (s t : Statistics) (es more : List (ℕ × Statistics)) (later : Blobs) → blobs_of more ≡ later
    → blobs_of (match_ordering o ((k, t) ∷ (j, s) ∷ es) ((j, t) ∷ es) ((j, s) ∷ more)) ≡ by_order o (blob k t (blob j s (blobs_of es))) (blob j t (blobs_of es)) (blob j s later)
put_by Less k j s t es more later h = refl
put_by Equal k j s t es more later h = refl
put_by Greater k j s t es more later h = ap (blob j s) h

pub blobs_of-insert : (es : List (ℕ × Statistics)) (k : ℕ) (t : Statistics) → blobs_of (insert_entry nat_cmp es k t) ≡ put (blobs_of es) k t
blobs_of-insert [] k t = refl
blobs_of-insert (e ∷ es) k t = put_by (nat_cmp k e.0) k e.0 e.1 t es (insert_entry nat_cmp es k t) (put (blobs_of es) k t) (blobs_of-insert es k t)

-- an insertion into blobs is a `put`
pub insert_blob : (es : List (ℕ × CodeStats)) (k : ℕ) (v : CodeStats) → blobs_of (entries_of (insert_entry nat_cmp es k v)) ≡ put (blobs_of (entries_of es)) k (stats_of v)
insert_blob es k v = ap blobs_of (insert_seen stats_of es k v) ∙ blobs_of-insert (entries_of es) k (stats_of v)

-- the keys stay as entries are seen
pub keys_of-seen : {V S : Type 0} (seen : V → S) (es : List (ℕ × V)) → keys_of (map (λ e. (e.0, seen e.1)) es) ≡ keys_of es
keys_of-seen seen [] = refl
keys_of-seen seen (e ∷ es) = ap (λ ks. e.0 ∷ ks) (keys_of-seen seen es)
