-- How a step changes the folders that are walked.
use Rattle.std.specs.Prelude.{◌≡◌, ◌<◌, ◌^◌, ℕ, List, [], ◌∷◌, ◌++◌, Bool, true, false, Option, Some, None, Ok, reverse, length}
use Rattle.tokei_folders.specs.declared.fs.Entry.{Entry}
use Rattle.tokei_walk.specs.declared.stack.Stack.{Stack}
use Rattle.tokei_walk.specs.declared.stack.Step.{Step}
use Rattle.tokei_walk.specs.declared.stack.Step.TheVariants.{Found, Passed, Ended}
use Rattle.tokei_walk.specs.declared.kept_file.KeptFile.{KeptFile}
use Rattle.tokei_walk.specs.declared.levels.Rules.{Rules}
use Rattle.tokei_folders.specs.Answers.{list_answer}
use Rattle.tokei_walk.specs.Descent.{outer}
use Rattle.tokei_folders.specs.Ends.{without_last}
use Rattle.tokei_walk.specs.Levels.{level_at, under}
use Rattle.tokei_folders.specs.Tree.{Tree, names_of}

-- the next entry is taken from those that are left
abbrev pub Pops : Stack → Stack → Option Entry → Type 0
Pops old new None = (old.left ≡ []) × (new ≡ old)
Pops old new (Some e) =
    (reverse old.left ≡ e ∷ reverse new.left) × (new ≡ record old { left = new.left })

-- the folder that holds the walked one is walked again
abbrev pub Leaves : Stack → Stack → Bool → Type 0
Leaves old new false = (old.holders ≡ []) × (new ≡ old)
Leaves old new true =
    (old.holders ≡ new.holders ++ record { place = new.place; left = new.left } ∷ [])
    × (new.context ≡ outer old.context)

-- a folder is entered: the one that was walked holds it, and its rules stand last
pub record Enters (old new : Stack) (place : List ℕ) : Type 0 where
  pub place_is : new.place ≡ place
  pub holders_is : new.holders ≡ old.holders ++ record { place = old.place; left = old.left } ∷ []
  pub names_stay : new.context.names ≡ old.context.names
  pub shown_stay : new.context.shown ≡ old.context.shown
  pub levels_is : without_last new.context.levels ≡ old.context.levels
  pub few : length new.left < 2 ^ 64

-- in a known tree its entries and its rules are the tree's
pub record EntersTold (tree : Tree) (rules : Rules) (old new : Stack) (place : List ℕ) : Type 0
  where
    pub entries_are : list_answer tree (names_of place) ≡ Ok (reverse new.left)
    pub levels_are : new.context.levels
        ≡ old.context.levels ++ level_at tree rules (names_of place) ∷ []

-- the context has the name of an entry of the walked folder last
abbrev pub at_entry : Stack → List ℕ → Stack
at_entry stack name = record stack { context = under stack.context name }

-- a file that isn't dropped is found
abbrev pub file_kept : Bool → List ℕ → Step
file_kept true place = Passed
file_kept false place = Found (record { path = place; place = place })

-- the walked folder stays, with what holds it
abbrev pub Stays : Stack → Stack → Type 0
Stays old new = (new.context ≡ old.context) × (new.place ≡ old.place) × (new.holders ≡ old.holders)

-- a step that finds no file leaves the walked folder, with fewer entries left, or with none at its
-- end
abbrev pub StepStays : Stack → Stack → Step → Type 0
StepStays old new (Found k) = Unit {0}
StepStays old new Passed = Stays old new × (length new.left < length old.left)
StepStays old new Ended = Stays old new × (new.left ≡ [])

-- where no file was found, the walked folder stays, and has no entry left
abbrev pub NoneStays : Stack → Stack → Option KeptFile → Type 0
NoneStays old new None = Stays old new × (new.left ≡ [])
NoneStays old new (Some k) = Unit {0}

-- where no file was found, nothing has changed
abbrev pub NoneIsSame : Stack → Stack → Option KeptFile → Type 0
NoneIsSame old new None = new ≡ old
NoneIsSame old new (Some k) = Unit {0}
