-- The content of a file of a known tree.
use Rattle.std.specs.Prelude.{ℕ, List, Option}
use Rattle.tokei_folders.specs.Answers.{node_content}
use Rattle.tokei_folders.specs.Tree.{Tree, node_at, names_of}

-- the content of the file at a place, where it can be read
unfoldable pub content_at : Tree → List ℕ → Option (List ℕ)
content_at tree place = node_content (node_at tree (names_of place))
