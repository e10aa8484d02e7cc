-- Where a sum fits, so does all that it was made of.
use Rattle.std.proofs.Common.{ℕ, Option, None, Some, arith}
use Rattle.std.specs.Ordering.{nat_cmp}
use Rattle.std.specs.declared.cmp.Ordering.{Ordering}
use Rattle.std.specs.declared.cmp.Ordering.TheVariants.{Less, Equal, Greater}
use Rattle.tokei_stats.specs.Statistics.{Counts, Statistics, Blobs, blobs, plus, by_order, at, put, joined, sum, add_all}
use Rattle.tokei_stats.specs.Statistics.Statistics.{node}
use Rattle.tokei_stats.specs.Statistics.Blobs.{none, blob}
use Rattle.tokei_stats.specs.Overflow.{CountsFit, Fits, BlobsFit}

pub counts-left : (a b : Counts) → CountsFit (plus a b) → CountsFit a
counts-left a b h = record { blanks = omega (arith, h.blanks); code = omega (arith, h.code); comments = omega (arith, h.comments) }

pub counts-right : (a b : Counts) → CountsFit (plus a b) → CountsFit b
counts-right a b h = record { blanks = omega (arith, h.blanks); code = omega (arith, h.code); comments = omega (arith, h.comments) }

-- what is put
pub put-value : (bs : Blobs) (k : ℕ) (v : Statistics) → BlobsFit (put bs k v) → Fits v
put-value none k v h = h.0
put-value (blob j s rest) k v h = by_cmp (nat_cmp k j) h (put-value rest k v)
  where
    by_cmp : (o : Ordering) → BlobsFit (by_order o (blob k v (blob j s rest)) (blob j v rest) (blob j s (put rest k v))) → (BlobsFit (put rest k v) → Fits v) → Fits v
    by_cmp Less h f = h.0
    by_cmp Equal h f = h.0
    by_cmp Greater h f = f h.1

-- what it is put into, where the value holds what was there
pub put-others : (f : Statistics → Statistics) (t : Statistics) → ((s : Statistics) → Fits (f s) → Fits s) → (bs : Blobs) (k : ℕ) → BlobsFit (put bs k (joined (at bs k) f t)) → BlobsFit bs
put-others f t g none k h = tt
put-others f t g (blob j s rest) k h = by_cmp (nat_cmp k j) h (put-others f t g rest k)
  where
    by_cmp : (o : Ordering)
        → BlobsFit (by_order o
        (blob k (joined (by_order o (at rest k) (Some s) (at rest k)) f t) (blob j s rest))
        (blob j (joined (by_order o (at rest k) (Some s) (at rest k)) f t) rest)
        (blob j s (put rest k (joined (by_order o (at rest k) (Some s) (at rest k)) f t))))
        → (BlobsFit (put rest k (joined (at rest k) f t)) → BlobsFit rest) → Fits s × BlobsFit rest
    by_cmp Less h r = h.1
    by_cmp Equal h r = (g s h.0, h.1)
    by_cmp Greater h r = (h.0, r h.1)

pub joined-new : (o : Option Statistics) (f : Statistics → Statistics) (t : Statistics) → ((s : Statistics) → Fits (f s) → Fits t) → Fits (joined o f t) → Fits t
joined-new None f t g h = h
joined-new (Some s) f t g h = g s h

mutual
  pub sum-left : (s t : Statistics) → Fits (sum s t) → Fits s
  sum-left (node m cs) (node n bs) h = (counts-left m n h.0, all-left cs bs h.1)

  pub all-left : (old bs : Blobs) → BlobsFit (add_all old bs) → BlobsFit old
  all-left old none h = h
  all-left old (blob k t rest) h = put-others (λ s. sum s t) t (λ s. sum-left s t) old k (all-left (put old k (joined (at old k) (λ s. sum s t) t)) rest h)

mutual
  pub sum-right : (s t : Statistics) → Fits (sum s t) → Fits t
  sum-right (node m cs) (node n bs) h = (counts-right m n h.0, all-right cs bs h.1)

  pub all-right : (old bs : Blobs) → BlobsFit (add_all old bs) → BlobsFit bs
  all-right old none h = tt
  all-right old (blob k t rest) h =
      let more : Blobs = put old k (joined (at old k) (λ s. sum s t) t) in
      (joined-new (at old k) (λ s. sum s t) t (λ s. sum-right s t) (put-value old k (joined (at old k) (λ s. sum s t) t) (all-left more rest h)), all-right more rest h)

-- the blobs of a sum that fits do
pub blobs-fit : (s t : Statistics) → Fits (sum s t) → BlobsFit (add_all (blobs s) (blobs t))
blobs-fit s (node n bs) h = h.1

-- what fits is put into what fits
pub put-fits : (bs : Blobs) (k : ℕ) (v : Statistics) → BlobsFit bs → Fits v → BlobsFit (put bs k v)
put-fits none k v h f = (f, tt)
put-fits (blob j s rest) k v h f = by_cmp (nat_cmp k j) (put-fits rest k v h.1 f)
  where
    by_cmp : (o : Ordering) → BlobsFit (put rest k v) → BlobsFit (by_order o (blob k v (blob j s rest)) (blob j v rest) (blob j s (put rest k v)))
    by_cmp Less r = (f, h)
    by_cmp Equal r = (f, h.1)
    by_cmp Greater r = (h.0, r)
