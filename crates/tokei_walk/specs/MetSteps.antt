-- How a step of a walk through a known tree changes its notes and what is still to be met.
use Rattle.std.specs.Prelude.{◌≡◌, ℕ, ◌-◌, List, [], ◌∷◌, ◌++◌, Bool, true, false, cond, Option, Some, None, length}
use Rattle.tokei_folders.specs.Tree.{Tree, names_of}
use Rattle.tokei_ignore.specs.declared.patterns.Pattern.{Pattern}
use Rattle.tokei_walk.specs.declared.kept_file.KeptFile.{KeptFile}
use Rattle.tokei_walk.specs.declared.kept_file.Note.{Note}
use Rattle.tokei_walk.specs.declared.kept_file.NoteKind.TheVariants.{Unlisted}
use Rattle.tokei_walk.specs.declared.levels.Rules.{Rules}
use Rattle.tokei_walk.specs.declared.stack.Stack.{Stack}
use Rattle.tokei_walk.specs.declared.stack.Step.{Step}
use Rattle.tokei_walk.specs.declared.stack.Step.TheVariants.{Found, Passed, Ended}
use Rattle.tokei_walk.specs.Kept.{greatest_depth}
use Rattle.tokei_walk.specs.Levels.{drops, under}
use Rattle.tokei_walk.specs.Met.{Keeps, Met, as_met, met_below}
use Rattle.tokei_walk.specs.Noted.{Noted, noted_level, said_in}
use Rattle.tokei_walk.specs.ToMeet.{met_stack, met_top}

-- notes were added that say just what there is less to be met
abbrev pub Meets : List Note → List Met → List Note → List Met → Type 0
Meets old to_come new left = as_met (said_in old) ++ to_come ≡ as_met (said_in new) ++ left

-- a file that is found stands before what is left
abbrev pub with_found : Option KeptFile → List Met → List Met
with_found None left = left
with_found (Some k) left = Keeps k ∷ left

-- the file that a step finds, if any
abbrev pub file_of : Step → Option KeptFile
file_of (Found k) = Some k
file_of Passed = None
file_of Ended = None

-- what is noted of a folder that is entered: of its ignore files; one that isn't can't be listed
abbrev pub noted_entering : Tree → Rules → List ℕ → Bool → List Noted
noted_entering tree rules place true = noted_level tree rules (names_of place)
noted_entering tree rules place false = (Unlisted, names_of place) ∷ []

-- what is met of an entry that is a folder
abbrev pub met_visit : List Pattern → Rules → Tree → Stack → List ℕ → List ℕ → List Met
met_visit excludes rules tree stack name place =
    cond (drops excludes rules stack.context name true) []
    (met_below excludes rules tree (greatest_depth - length stack.holders)
    (under stack.context name) place)

-- by a visit of a folder's entry nothing of it is left, unless a file is found
abbrev pub VisitMeets : List Pattern → Rules → Tree → Stack → Stack → List Note → List Note → List ℕ
    → List ℕ → Option KeptFile → Type 0
VisitMeets excludes rules tree old new before after name place None =
    Meets before (met_visit excludes rules tree old name place) after []
VisitMeets excludes rules tree old new before after name place (Some k) =
    Meets before
    (met_visit excludes rules tree old name place ++ met_stack excludes rules tree old)
    after (Keeps k ∷ met_stack excludes rules tree new)

-- by a step over one entry there is less of the walked folder, and nothing at its end, unless a
-- file is found
abbrev pub StepMeets : List Pattern → Rules → Tree → Stack → Stack → List Note → List Note → Step
    → Type 0
StepMeets excludes rules tree old new before after (Found k) =
    Meets before (met_stack excludes rules tree old) after
    (Keeps k ∷ met_stack excludes rules tree new)
StepMeets excludes rules tree old new before after Passed =
    Meets before (met_top excludes rules tree old) after (met_top excludes rules tree new)
StepMeets excludes rules tree old new before after Ended =
    Meets before (met_top excludes rules tree old) after []

-- by the exploring of the walked folder nothing of it is left, unless a file is found
abbrev pub ExploreMeets : List Pattern → Rules → Tree → Stack → Stack → List Note → List Note
    → Option KeptFile → Type 0
ExploreMeets excludes rules tree old new before after None =
    Meets before (met_top excludes rules tree old) after []
ExploreMeets excludes rules tree old new before after (Some k) =
    Meets before (met_stack excludes rules tree old) after
    (Keeps k ∷ met_stack excludes rules tree new)
