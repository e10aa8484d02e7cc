-- The place of an entry of a folder.
use Rattle.std.specs.Prelude.{ℕ, List, ◌∷◌, ◌++◌, if◌then◌else◌}
use Rattle.tokei_folders.specs.Ends.{ends_in}

-- the place of an entry: a slash stands between, unless the folder's place ends in one
unfoldable pub joined : List ℕ → List ℕ → List ℕ
joined place name = if ends_in 47 place then place ++ name else place ++ 47 ∷ name
