-- The languages of blob reports.
use Rattle.std.proofs.Common.{◌≡◌, ℕ, List, [], ◌∷◌, refl, ap}
use Rattle.std.specs.Map.{keys_of}
use Rattle.tokei_stats.specs.declared.stats.CodeStats.{CodeStats}
use Rattle.tokei_stats.specs.Seen.{blobs_of, entries_of}
use Rattle.tokei_languages.specs.Merging.{blob_reports}

-- they are those of the blobs
pub keys_reported : (name : List ℕ) (es : List (ℕ × CodeStats)) → keys_of (blob_reports name (blobs_of (entries_of es))) ≡ keys_of es
keys_reported name [] = refl
keys_reported name (e ∷ es) = ap (λ ks. e.0 ∷ ks) (keys_reported name es)
