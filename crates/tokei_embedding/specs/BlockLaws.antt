-- Laws of the blocks: how far each reaches, and where none opens.
use Rattle.std.specs.Prelude.{◌≡◌, ℕ, ◌+◌, ◌<◌, ◌≤◌, true, false, ◌==◌, is_some, None, Some}
use Rattle.std.specs.Prelude.{List, ◌∷◌, ◌++◌, length, drop, codes}
use Rattle.tokei_table_row.specs.Bytes.{is_blank, begins, newline}
use Rattle.tokei_table_row.specs.FirstOpener.{first_opener}
use Rattle.tokei_embedding.specs.DocComments.{DocBlock, doc_block, doc_marks, first_line}
use Rattle.tokei_embedding.specs.Fences.{Fence, fence, fence_block}
use Rattle.tokei_embedding.specs.Tags.{TagBlock, token_of, tag_block}
use Rattle.tokei_embedding.specs.TargetBlocks.{TargetBlock, target_block}
use Rattle.tokei_embedding.specs.declared.tags.Tag.{Tag}

-- A block takes a byte or more, ends in the text, and takes two bytes at least beside what it
-- holds.
pub record Reaches (size : ℕ) (contents rest : List ℕ) : Type 0 where
  pub some : 0 < size
  pub within : size ≤ length rest
  pub holds : length contents + 2 ≤ size

-- A fence's block reaches so far, where the text goes on as the part does from the place on.
abbrev pub FencesReach : Type 0
FencesReach =
    (part rest tail : List ℕ) (place : ℕ) (f : Fence) → rest ≡ drop place part ++ tail
    → fence_block part place rest ≡ Some f → Reaches f.size f.contents rest

-- So does an element.
abbrev pub TagsReach : Type 0
TagsReach =
    (tag : Tag) (part rest : List ℕ) (place : ℕ) (b : TagBlock)
    → tag_block tag part place rest ≡ Some b → Reaches b.size b.contents rest

-- So does a block of doc comments.
abbrev pub DocsReach : Type 0
DocsReach =
    (rest : List ℕ) (b : DocBlock) → doc_block rest ≡ Some b → Reaches b.size b.contents rest

-- So does a block of the target language.
abbrev pub TargetsReach : Type 0
TargetsReach =
    (part rest tail : List ℕ) (place : ℕ) (b : TargetBlock) → rest ≡ drop place part ++ tail
    → target_block part place rest ≡ Some b → Reaches b.size b.contents rest

-- No block opens where a newline stands.
pub record NoneAtNewline (part text : List ℕ) (place : ℕ) : Type 0 where
  pub fence : fence_block part place (newline ∷ text) ≡ None
  pub tag : (g : Tag) → tag_block g part place (newline ∷ text) ≡ None
  pub doc : doc_block (newline ∷ text) ≡ None
  pub target : target_block part place (newline ∷ text) ≡ None

-- At each place of a part at which a newline stands, no block opens.
abbrev pub NewlinesOpenNothing : Type 0
NewlinesOpenNothing =
    (part t tail : List ℕ) (place : ℕ) → newline ∷ t ≡ drop place part ++ tail
    → NoneAtNewline part t place

-- A block of doc comments opens at a blank of a line exactly where one opens at the byte behind it.
abbrev pub DocsOpenBeforeBlanks : Type 0
DocsOpenBeforeBlanks =
    (b : ℕ) (t : List ℕ) → is_blank b ≡ true → (b == newline) ≡ false
    → is_some (doc_block (b ∷ t)) ≡ is_some (doc_block t)

-- No block opens at a place of a part where its opener doesn't stand. Blanks may stand before the
-- mark of a doc comment, so none of these opens where no mark stands in the rest of the line.
pub record BeginWithOpeners (part rest : List ℕ) (place : ℕ) : Type 0 where
  pub fences : begins fence (drop place part) ≡ false → fence_block part place rest ≡ None
  pub tags : (g : Tag) → begins (token_of g) (drop place part) ≡ false
      → tag_block g part place rest ≡ None
  pub docs : first_opener doc_marks (first_line rest) ≡ None → doc_block rest ≡ None
  pub targets : begins (codes "{=") (drop place part) ≡ false → target_block part place rest ≡ None

-- At each place of each part blocks open only where their openers stand.
abbrev pub BlocksBeginWithOpeners : Type 0
BlocksBeginWithOpeners = (part rest : List ℕ) (place : ℕ) → BeginWithOpeners part rest place
