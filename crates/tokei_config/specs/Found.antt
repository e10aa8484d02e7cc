-- What there is of a file: nothing, a file that can't be read, or a content.
use Rattle.std.specs.Prelude.{ℕ, List, Option, Some, None, if◌then◌else◌}
use Rattle.tokei_folders.specs.declared.nodes.Node.{Node}
use Rattle.tokei_folders.specs.declared.nodes.Node.TheVariants.{File as file, Folder as folder}

-- A file of what stands at a place, and its content where it can be read.
abbrev pub file_found : Option Node → Option (Option (List ℕ))
file_found None = None
file_found (Some (folder r)) = None
file_found (Some (file r h c)) = Some (if r then None else Some c)
