-- What was gathered of a text's children so far, with what each further child adds.
use Rattle.std.specs.Prelude.{List, [], ◌∷◌}
use Rattle.tokei_parts.specs.Items.{Block}
use Rattle.tokei_stats.specs.Statistics.{Counts, Statistics, Blobs, no_lines, plus, at, put, joined, sum}

-- the blobs so far, with the statistics of each further child added at its language
abbrev pub gathered : (Block → Statistics) → Blobs → List Block → Blobs
gathered read bs [] = bs
gathered read bs (k ∷ ks) =
    gathered read (put bs k.language (joined (at bs k.language) (λ s. sum s (read k)) (read k))) ks

-- what the children add to the parent's own counts
abbrev pub shares : List Block → Counts
shares [] = no_lines
shares (k ∷ ks) = plus k.share (shares ks)
