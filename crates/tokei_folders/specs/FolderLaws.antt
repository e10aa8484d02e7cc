-- What holds of the definitions of folders alone.
use Rattle.std.specs.Prelude.{◌≡◌, ℕ, List, ◌++◌, Option, Some, None, Result, Ok, Err, true}
use Rattle.tokei_folders.specs.declared.fs.Fault.{Fault}
use Rattle.tokei_folders.specs.declared.fs.Fault.TheVariants.{Refused}
use Rattle.tokei_folders.specs.declared.nodes.Node.{Node}
use Rattle.tokei_folders.specs.Answers.{node_content, read_answer}
use Rattle.tokei_folders.specs.Places.{joined}
use Rattle.tokei_folders.specs.Tree.{Tree, IsSound, is_sound, names_of}

-- a content is answered, and where there is none the call is refused
abbrev pub answer_with : Option (List ℕ) → Result (List ℕ) Fault
answer_with None = Err Refused
answer_with (Some content) = Ok content

-- a read answers the content of what stands at the place
abbrev pub ReadsContent : Type 0
ReadsContent = (node : Option Node) → read_answer node ≡ answer_with (node_content node)

-- folders that tell a tree tell a sound one
abbrev pub ToldIsSound : Type 0
ToldIsSound =
    (told : Option Tree) (tree : Tree) → IsSound told → told ≡ Some tree → is_sound tree ≡ true

-- the names of a joined place are those of the folder and then those of the name
abbrev pub JoinsNames : Type 0
JoinsNames = (place name : List ℕ) → names_of (joined place name) ≡ names_of place ++ names_of name
