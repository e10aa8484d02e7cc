-- Parts at whose head a line comment stands, or a comment opens.
use Rattle.std.specs.Prelude.{◌≡◌, ℕ, Bool, true, false, not, ◌&&◌, ◌||◌, List, [], ◌∷◌}
use Rattle.std.specs.List.{list_any}
use Rattle.std.specs.Str.{bytes_eq}
use Rattle.tokei_table.specs.Bytes.{all_blank, begins, is_blank}
use Rattle.tokei_table.specs.Row.{Pair, Row}
use Rattle.tokei_parts.specs.Choice.{any_begins}
use Rattle.tokei_parts.specs.Class.{head_of, opens_with}

-- the last byte is no blank, and there is one
abbrev pub ends_solid : List ℕ → Bool
ends_solid [] = false
ends_solid (b ∷ []) = not (is_blank b)
ends_solid (b ∷ c ∷ t) = ends_solid (c ∷ t)

-- some token whose last byte is no blank stands at the front of the text
abbrev pub any_solid_begins : List (List ℕ) → List ℕ → Bool
any_solid_begins tokens text = list_any (λ token. ends_solid token && begins token text) tokens

-- some pair of the list with this closer opens at the front of the text, by an opener whose last byte
-- is no blank
abbrev pub opens_solid : List Pair → List ℕ → List ℕ → Bool
opens_solid pairs text closer = list_any
    (λ pair. (ends_solid pair.opener && begins pair.opener text) && bytes_eq pair.closer closer)
    pairs

-- the part isn't blank, and a comment with this closer opens at its head
pub record OpensComment (row : Row) (part closer : List ℕ) : Type 0 where
  pub solid : all_blank part ≡ false
  pub opens : (opens_with row.multi_line_comments (head_of row part) closer
      || opens_with row.nested_comments (head_of row part) closer) ≡ true

-- the part isn't blank, and a line comment stands at its head
pub record HasCommentHead (row : Row) (part : List ℕ) : Type 0 where
  pub solid : all_blank part ≡ false
  pub line : any_begins row.line_comment (head_of row part) ≡ true
