-- From which place of a part to which no block opens.
use Rattle.std.specs.Prelude.{◌≡◌, ℕ, ◌-◌, ◌<◌, ◌≤◌, List, drop, None}
use Rattle.tokei_table_row.specs.Slices.{between}
use Rattle.tokei_embedding.specs.Fences.{fence_block}
use Rattle.tokei_embedding.specs.Tags.{tag_block}
use Rattle.tokei_embedding.specs.TargetBlocks.{target_block}
use Rattle.tokei_embedding.specs.declared.tags.Tag.{Tag}

-- No fence opens in the part `text[start..to]` from the place `at` to before `end`.
abbrev pub OpensNoFence : List ℕ → ℕ → ℕ → ℕ → ℕ → Type 0
OpensNoFence text start to at end =
    (p : ℕ) → at ≤ p → p < end
    → fence_block (between text start to) (p - start) (drop p text) ≡ None

-- Nor does an element with the tag.
abbrev pub OpensNoElement : Tag → List ℕ → ℕ → ℕ → ℕ → ℕ → Type 0
OpensNoElement tag text start to at end =
    (p : ℕ) → at ≤ p → p < end
    → tag_block tag (between text start to) (p - start) (drop p text) ≡ None

-- Nor does a block of the target language.
abbrev pub OpensNoTarget : List ℕ → ℕ → ℕ → ℕ → ℕ → Type 0
OpensNoTarget text start to at end =
    (p : ℕ) → at ≤ p → p < end
    → target_block (between text start to) (p - start) (drop p text) ≡ None
