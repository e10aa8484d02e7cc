-- What a walk through a known tree has still to meet.
use Rattle.std.specs.Prelude.{ℕ, ◌-◌, List, [], ◌∷◌, ◌++◌, reverse, length}
use Rattle.tokei_folders.specs.Tree.{Tree}
use Rattle.tokei_ignore.specs.declared.patterns.Pattern.{Pattern}
use Rattle.tokei_walk.specs.declared.levels.Context.{Context}
use Rattle.tokei_walk.specs.declared.levels.Rules.{Rules}
use Rattle.tokei_walk.specs.declared.stack.Frame.{Frame}
use Rattle.tokei_walk.specs.declared.stack.Stack.{Stack}
use Rattle.tokei_walk.specs.Descent.{outer}
use Rattle.tokei_walk.specs.Kept.{greatest_depth}
use Rattle.tokei_walk.specs.Met.{Met, met_below, met_entries, met_in}

-- what is still to be met of the folders that are entered and not left, the innermost first
unfoldable pub met_frames : List Pattern → Rules → Tree → Context → List Frame → List Met
met_frames excludes rules tree context [] = []
met_frames excludes rules tree context (f ∷ fs) =
    met_entries excludes rules (met_below excludes rules tree (greatest_depth - length fs))
    context f.place (reverse f.left)
    ++ met_frames excludes rules tree (outer context) fs

-- what is still to be met of the folder that is walked
abbrev pub met_top : List Pattern → Rules → Tree → Stack → List Met
met_top excludes rules tree stack =
    met_entries excludes rules
    (met_below excludes rules tree (greatest_depth - length stack.holders))
    stack.context stack.place
    (reverse stack.left)

-- of that folder, and then of those that hold it
abbrev pub met_stack : List Pattern → Rules → Tree → Stack → List Met
met_stack excludes rules tree stack =
    met_top excludes rules tree stack
    ++ met_frames excludes rules tree (outer stack.context) (reverse stack.holders)

-- of the walked folders, and then of the roots that are left, the last one first
abbrev pub met_all : List Pattern → Rules → Tree → Stack → List (List ℕ) → List Met
met_all excludes rules tree stack roots =
    met_stack excludes rules tree stack ++ met_in excludes rules tree (reverse roots)
