-- What is counted of the parts of a text, the children in it, and the blocks that can open.
use Rattle.std.specs.Prelude.{ℕ, zero, suc, Bool, List, [], ◌∷◌, Option}
use Rattle.tokei_table.specs.Row.{Row}
use Rattle.tokei_parts.specs.Items.{Block}
use Rattle.tokei_parts.specs.Derivation.{no_child}
use Rattle.tokei_parts.specs.Modes.{Mark}
use Rattle.tokei_parts.specs.Modes.Mark.{byte_at, child_at}
use Rattle.tokei_parts.specs.Parts.{Part}
use Rattle.tokei_parts.specs.Class.{class_of}
use Rattle.tokei_table_row.specs.Counts.{Counts, no_lines, plus}
use Rattle.tokei_parts.specs.declared.class.Class.{Class}
use Rattle.tokei_parts.specs.declared.class.Class.TheVariants.{Blank, Code, Comment}

-- one line of the class
abbrev pub one_of : Class → Counts
one_of Blank = record { blanks = 1; code = 0; comments = 0 }
one_of Code = record { blanks = 0; code = 1; comments = 0 }
one_of Comment = record { blanks = 0; code = 0; comments = 1 }

-- each counted part is 1 in the column of its class
abbrev pub tally : Row → Bool → List Part → Counts
tally row docs_are_comments [] = no_lines
tally row docs_are_comments (p ∷ ps) =
    plus (one_of (class_of row docs_are_comments p)) (tally row docs_are_comments ps)

-- the children, in order
abbrev pub children : List Mark → List Block
children [] = []
children (byte_at b x c ∷ ms) = children ms
children (child_at k ∷ ms) = k ∷ children ms

-- the blocks that can open in a text, with so many levels left, where `block` says which open: with
-- none left no child opens
abbrev pub blocks_at : (ℕ → List ℕ → (ℕ → List ℕ → Option Block)) → ℕ → ℕ → List ℕ
    → (ℕ → List ℕ → Option Block)
blocks_at block zero language text = no_child
blocks_at block (suc levels) language text = block language text
