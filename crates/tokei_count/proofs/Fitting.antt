-- Where the blobs of a reading fit, so does all that they were made of.
use Rattle.std.proofs.Common.{List, [], ◌∷◌}
use Rattle.tokei_parts.specs.Items.{Block}
use Rattle.tokei_stats.specs.Statistics.{Statistics, Blobs, at, put, joined, sum}
use Rattle.tokei_count.specs.Gathered.{gathered}
use Rattle.tokei_stats.specs.Overflow.{Fits, BlobsFit}
use Rattle.tokei_stats.proofs.Fitting.{put-value, put-others, joined-new, sum-left, sum-right}

-- the blobs so far, where all children's do
pub gathered-left : (read : Block → Statistics) (bs : Blobs) (ks : List Block) → BlobsFit (gathered read bs ks) → BlobsFit bs
gathered-left read bs [] h = h
gathered-left read bs (k ∷ ks) h =
    let t : Statistics = read k in
    put-others (λ s. sum s t) t (λ s. sum-left s t) bs k.language (gathered-left read (put bs k.language (joined (at bs k.language) (λ s. sum s t) t)) ks h)

-- the first child's statistics, and those that it is added to
pub gathered-first : (read : Block → Statistics) (bs : Blobs) (k : Block) (ks : List Block) → BlobsFit (gathered read bs (k ∷ ks)) → Fits (joined (at bs k.language) (λ s. sum s (read k)) (read k))
gathered-first read bs k ks h = put-value bs k.language _ (gathered-left read (put bs k.language (joined (at bs k.language) (λ s. sum s (read k)) (read k))) ks h)

pub gathered-child : (read : Block → Statistics) (bs : Blobs) (k : Block) (ks : List Block) → BlobsFit (gathered read bs (k ∷ ks)) → Fits (read k)
gathered-child read bs k ks h = joined-new (at bs k.language) (λ s. sum s (read k)) (read k) (λ s. sum-right s (read k)) (gathered-first read bs k ks h)
