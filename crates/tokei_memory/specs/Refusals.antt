-- What a known tree is after a place is to refuse calls, or is none where nothing stands there.
use Rattle.std.specs.Prelude.{[], ◌∷◌, true, if◌then◌else◌, Option, Some, None, is_some}
use Rattle.std.specs.Ordering.{is_eq}
use Rattle.tokei_folders.specs.declared.nodes.Node.{Node}
use Rattle.tokei_folders.specs.declared.nodes.Node.TheVariants.{File as file, Folder as folder}
use Rattle.tokei_folders.specs.Tree.{Names, Tree, names_cmp, node_at}
use Rattle.tokei_memory.specs.declared.call.Call.{Call}
use Rattle.tokei_memory.specs.declared.call.Call.TheVariants.{List as ListCall, Read, Head}

-- the call is refused; one of the wrong kind is refused anyway
abbrev pub refusing : Call → Node → Node
refusing ListCall (folder no_list) = folder true
refusing Read (folder no_list) = folder no_list
refusing Head (folder no_list) = folder no_list
refusing ListCall (file no_read no_head content) = file no_read no_head content
refusing Read (file no_read no_head content) = file true no_head content
refusing Head (file no_read no_head content) = file no_read true content

-- what stands at a place is another
abbrev pub changed : (Node → Node) → Names → Tree → Tree
changed change names [] = []
changed change names (first ∷ rest) =
    if is_eq (names_cmp first.names names)
    then record { names = first.names; node = change first.node } ∷ rest
    else first ∷ changed change names rest

-- the call is refused at a place
abbrev pub refused_at : Call → Names → Tree → Tree
refused_at call names tree = changed (refusing call) names tree

-- a place refuses a call
unfoldable pub with_refusal : Tree → Names → Call → Option Tree
with_refusal tree names call =
    if is_some (node_at tree names) then Some (refused_at call names tree) else None

-- a place refuses all of them
unfoldable pub with_refusals : Tree → Names → Option Tree
with_refusals tree names =
    if is_some (node_at tree names)
    then Some (refused_at ListCall names (refused_at Read names (refused_at Head names tree)))
    else None
