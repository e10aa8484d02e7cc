-- The steps of a text: how many choices a reading has to make that looks at a part only where it
-- must.
use Rattle.std.specs.Prelude.{ℕ, zero, suc, ◌+◌, Bool, true, false, if◌then◌else◌, List, [], ◌∷◌, length, None, nat_le}
use Rattle.tokei_table.specs.Openers.{openers}
use Rattle.tokei_table.specs.Row.{Row}
use Rattle.tokei_parts.specs.Derivation.{items_of}
use Rattle.tokei_parts.specs.Glance.{is_walked}
use Rattle.tokei_parts.specs.Items.{Block, Items}
use Rattle.tokei_count.specs.Languages.{Languages, is_notebook}
use Rattle.tokei_parts.specs.Modes.{marks}
use Rattle.tokei_count.specs.PlainReading.{blocks}
use Rattle.tokei_parts.specs.Tally.{children}
use Rattle.tokei_parts.specs.Stretches.{Stretch, stretches, choices_of}

-- the choices of those stretches that are walked
abbrev pub walked_choices : List (List ℕ) → List Stretch → ℕ
walked_choices os [] = 0
walked_choices os (s ∷ ss) =
    (if is_walked os s.begun s.reach then choices_of s.own else 0) + walked_choices os ss

-- the choices of all stretches
abbrev pub all_choices : List Stretch → ℕ
all_choices [] = 0
all_choices (s ∷ ss) = choices_of s.own + all_choices ss

-- the bytes of those stretches that are walked
abbrev pub walked_bytes : List (List ℕ) → List Stretch → ℕ
walked_bytes os [] = 0
walked_bytes os (s ∷ ss) =
    (if is_walked os s.begun s.reach then length s.own else 0) + walked_bytes os ss

-- what each of the blocks is worth, added up
abbrev pub sum_over : (Block → ℕ) → List Block → ℕ
sum_over f [] = 0
sum_over f (k ∷ ks) = f k + sum_over f ks

-- the items of a text, with so many levels left
abbrev pub items_in : Languages → ℕ → ℕ → List ℕ → Items
items_in ls levels language text = items_of (ls.row language) (blocks ls levels language text) text

-- the children among them
abbrev pub children_in : Languages → ℕ → ℕ → List ℕ → List Block
children_in ls levels language text = children (marks [] (items_in ls levels language text))

-- A number of each text, with those of its children or cells: for a text that is read in lines it
-- is `own`, and one for each child; a notebook has nothing but its cells, and with no levels left
-- nothing at all.
unfoldable pub with_children : (Row → List ℕ → Items → ℕ) → Languages → ℕ → ℕ → List ℕ → ℕ
with_children own ls zero language text =
    if is_notebook (ls.row language) then 0
    else own (ls.row language) text (items_in ls zero language text)
    + length (children_in ls zero language text)
with_children own ls (suc levels) language text =
    if is_notebook (ls.row language)
    then sum_over (λ k. with_children own ls levels k.language k.contents) (ls.cells language text)
    else own (ls.row language) text (items_in ls (suc levels) language text)
    + length (children_in ls (suc levels) language text)
    + sum_over (λ k. with_children own ls levels k.language k.contents)
    (children_in ls (suc levels) language text)

-- the choices in the walked parts of a text, its children apart
abbrev pub own_steps : Row → List ℕ → Items → ℕ
own_steps row text is = walked_choices (openers row) (stretches None [] text (marks [] is))

-- the choices in all parts of a text, its children apart
abbrev pub own_choices : Row → List ℕ → Items → ℕ
own_choices row text is = all_choices (stretches None [] text (marks [] is))

-- what a reading makes of these: where it skips, those in the walked parts, and else all
abbrev pub own_steps_by : Bool → Row → List ℕ → Items → ℕ
own_steps_by true = own_steps
own_steps_by false = own_choices

-- the bytes of the walked parts of a text, its children apart
abbrev pub own_work : Row → List ℕ → Items → ℕ
own_work row text is = walked_bytes (openers row) (stretches None [] text (marks [] is))

-- The steps of a text, with those of its children: the choices in its walked parts, and one for
-- each child.
abbrev pub steps : Languages → ℕ → ℕ → List ℕ → ℕ
steps = with_children own_steps

-- The steps of the plain reading, which skips nothing: a step for each choice, and one for each
-- child.
abbrev pub plain_steps : Languages → ℕ → ℕ → List ℕ → ℕ
plain_steps = with_children own_choices

-- the steps of a reading that skips, or of one that doesn't
abbrev pub made_steps : Bool → Languages → ℕ → ℕ → List ℕ → ℕ
made_steps skips = with_children (own_steps_by skips)

-- The work of a text: the lengths of its walked parts, and one for each child.
abbrev pub work : Languages → ℕ → ℕ → List ℕ → ℕ
work = with_children own_work

-- the steps of a child, or of a notebook's cell, in a text with so many levels left
abbrev pub child_steps : Bool → Languages → ℕ → Block → ℕ
child_steps skips ls zero block = 0
child_steps skips ls (suc levels) block = made_steps skips ls levels block.language block.contents

-- the number, or the greatest `u128` where that is less
abbrev pub capped : ℕ → ℕ
capped number =
    if nat_le number 340282366920938463463374607431768211455 then number
    else 340282366920938463463374607431768211455
