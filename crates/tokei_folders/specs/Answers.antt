-- What the calls on a known tree answer.
use Rattle.std.specs.Prelude.{◌≡◌, ◌≢◌, ℕ, ◌+◌, List, [], ◌∷◌, Bool, true, false, Option, Some, None, Result, Ok, Err, take, map, reverse, if◌then◌else◌, cond, MatchResult, IfOk, ◌≤◌}
use Rattle.std.specs.Global.{Vec}
use Rattle.tokei_folders.specs.declared.fs.Kind.{Kind}
use Rattle.tokei_folders.specs.declared.fs.Kind.TheVariants.{File, Folder}
use Rattle.tokei_folders.specs.declared.fs.Fault.{Fault}
use Rattle.tokei_folders.specs.declared.fs.Fault.TheVariants.{Refused, Memory}
use Rattle.tokei_folders.specs.declared.fs.Entry.{Entry}
use Rattle.tokei_folders.specs.declared.fs.Above.{Above}
use Rattle.tokei_folders.specs.declared.fs.Listing.{Listing}
use Rattle.tokei_folders.specs.declared.nodes.Node.{Node}
use Rattle.tokei_folders.specs.declared.nodes.Node.TheVariants.{File as file, Folder as folder}
use Rattle.tokei_folders.specs.Tree.{Names, Tree, node_at, below, names_of, folders_above}

-- the kind of what stands at a place
abbrev pub kind_of : Node → Kind
kind_of (file no_read no_head content) = File
kind_of (folder no_list) = Folder

-- the kind, where something stands there; else the call is refused
abbrev pub kind_answer : Option Node → Result Kind Fault
kind_answer None = Err Refused
kind_answer (Some node) = Ok (kind_of node)

-- the kind, where anything stands there
abbrev pub node_kind : Option Node → Option Kind
node_kind None = None
node_kind (Some node) = Some (kind_of node)

-- the content, where a file stands there that can be read
abbrev pub node_content : Option Node → Option (List ℕ)
node_content None = None
node_content (Some (folder no_list)) = None
node_content (Some (file no_read no_head content)) = cond no_read None (Some content)

-- a file's content in bytes; a folder, a file that can't be read, and nothing are refused
abbrev pub read_answer : Option Node → Result (List ℕ) Fault
read_answer None = Err Refused
read_answer (Some (folder no_list)) = Err Refused
read_answer (Some (file no_read no_head content)) = if no_read then Err Refused else Ok content

-- the first 128 bytes
abbrev pub head_answer : Option Node → Result (List ℕ) Fault
head_answer None = Err Refused
head_answer (Some (folder no_list)) = Err Refused
head_answer (Some (file no_read no_head content)) =
    if no_head then Err Refused else Ok (take 128 content)

-- the name that leads down to a place, where it is one alone
abbrev pub only_name : Option Names → Option (List ℕ)
only_name None = None
only_name (Some []) = None
only_name (Some (name ∷ [])) = Some name
only_name (Some (name ∷ next ∷ others)) = None

-- a place is an entry of a folder where one name leads down to it
abbrev pub entry_named : Option (List ℕ) → Node → List Entry → List Entry
entry_named None node entries = entries
entry_named (Some name) node entries = record { name = name; kind = kind_of node } ∷ entries

-- the entries of a folder, in the tree's order
abbrev pub entries_in : Names → Tree → List Entry
entries_in folder_names [] = []
entries_in folder_names (first ∷ rest) =
    entry_named (only_name (below folder_names first.names)) first.node
    (entries_in folder_names rest)

-- a folder stands there that can be listed
abbrev pub can_list : Option Node → Bool
can_list None = false
can_list (Some (file no_read no_head content)) = false
can_list (Some (folder no_list)) = cond no_list false true

-- the entries of a folder that can be listed, in the tree's order; else the call is refused
unfoldable pub list_answer : Tree → Names → Result (List Entry) Fault
list_answer tree names =
    if can_list (node_at tree names) then Ok (entries_in names tree) else Err Refused

-- the folders above, nearest first
abbrev pub above_view : Above → Names × List ℕ
above_view above = (names_of above.place, above.name)

-- in a known tree these are the folders above a place
abbrev pub AboveTells : Option Tree → Names → Result (Vec Above) Fault → Type 0
AboveTells told names answer =
    (tree : Tree) → told ≡ Some tree → answer ≢ Err Memory
    → MatchResult answer (λ found. map above_view (reverse found.items) ≡ folders_above [] names)
    (λ fault. ⊥)

-- a fact of the known tree, where folders tell one
abbrev pub Told : Option Tree → (Tree → Type 0) → Type 0
Told told Fact = (tree : Tree) → told ≡ Some tree → Fact tree

-- where a tree is known, an answer, unless it is out of memory, is the tree's own
abbrev pub Tells : {A : Type 0} → Option Tree → (Tree → Result A Fault) → Result A Fault → Type 0
Tells told answer_of answer = Told told (λ tree. answer ≢ Err Memory → answer ≡ answer_of tree)

-- the bytes that are answered
abbrev pub bytes_of : Result (Vec ℕ) Fault → Result (List ℕ) Fault
bytes_of (Ok bytes) = Ok bytes.items
bytes_of (Err fault) = Err fault

-- where a tree is known, the bytes, unless the answer is out of memory, are the tree's own
abbrev pub BytesTell : Option Tree → (Tree → Result (List ℕ) Fault) → Result (Vec ℕ) Fault → Type 0
BytesTell told answer_of answer =
    Told told (λ tree. answer ≢ Err Memory → bytes_of answer ≡ answer_of tree)

-- the entries of a listing
abbrev pub entries_of : Result Listing Fault → Result (List Entry) Fault
entries_of (Ok listing) = Ok listing.entries.items
entries_of (Err fault) = Err fault

-- a listing that memory doesn't fail answers as a known tree does
abbrev pub ListTells : Option Tree → Names → Result Listing Fault → Type 0
ListTells told names answer =
    Told told (λ tree. answer ≢ Err Memory → entries_of answer ≡ list_answer tree names)

-- in a known tree each name is UTF-8
abbrev pub NamesTell : Option Tree → Result Listing Fault → Type 0
NamesTell told answer = Told told (λ tree. IfOk answer (λ listing. listing.unnamed ≡ 0))

-- in a known tree it can be told of each entry what stands there
abbrev pub LosesNone : Option Tree → Result Listing Fault → Type 0
LosesNone told answer = Told told (λ tree. IfOk answer (λ listing. listing.lost.items ≡ []))

-- a count of faults that has reached the greatest `u64` falls no more
abbrev pub StaysFull : ℕ → ℕ → Type 0
StaysFull old new = 18446744073709551615 ≤ old → 18446744073709551615 ≤ new

-- how many answers were out of memory
abbrev pub counted : {A : Type 0} → Result A Fault → ℕ → ℕ
counted (Ok answer) faults = faults
counted (Err Refused) faults = faults
counted (Err Memory) faults = faults + 1
