-- Openers in groups of one first byte, and what can follow that byte.
use Rattle.std.specs.Prelude.{◌≡◌, ℕ, ◌<◌, Bool, true, false, ◌==◌, ◌&&◌}
use Rattle.std.specs.Prelude.{List, [], ◌∷◌, length, slice_index, slice_index_or}
use Rattle.std.specs.List.{list_any, list_all}
use Rattle.tokei_table_row.specs.FirstOpener.{is_nonempty, is_first_of, is_first}
use Rattle.tokei_table_row.specs.Bytes.{begins_with_one}
use Rattle.tokei_table_row.specs.RowOf.{tokens_of}
use Rattle.tokei_bytes.specs.OneOf.{is_one_of}
use Rattle.tokei_table_search.specs.declared.opener_group.OpenerGroup.{OpenerGroup}

-- Whether that byte can follow the opener's first one: it is the second, or there is none.
abbrev pub goes_on_with : ℕ → List ℕ → Bool
goes_on_with y [] = true
goes_on_with y (a ∷ []) = true
goes_on_with y (a ∷ b ∷ o) = b == y

-- Whether the opener stands wherever that byte follows its first one: it has no third byte.
abbrev pub is_whole_with : ℕ → List ℕ → Bool
is_whole_with y [] = true
is_whole_with y (a ∷ []) = true
is_whole_with y (a ∷ b ∷ []) = b == y
is_whole_with y (a ∷ b ∷ c ∷ o) = false

-- Whether the opener begins with the first of the two bytes, and the other can follow it.
abbrev pub goes_on_behind : ℕ → ℕ → List ℕ → Bool
goes_on_behind byte y opener = is_first_of byte opener && goes_on_with y opener

-- Whether the opener begins with the first of the two bytes, and stands wherever the other follows.
abbrev pub is_whole_behind : ℕ → ℕ → List ℕ → Bool
is_whole_behind byte y opener = is_first_of byte opener && is_whole_with y opener

-- For each byte, a flag tells whether one of the openers passes the test with it.
pub record HasFlags (test : ℕ → List ℕ → Bool) (openers : List (List ℕ))
    (flags : List Bool) : Type 0 where
  pub all : length flags ≡ 256
  pub each : (y : ℕ) → y < 256 → slice_index_or flags y false ≡ list_any (test y) openers

-- The group has what can follow that first byte of the openers, none of which is empty. At a text
-- that begins with the byte one of its own openers stands where one of all does.
pub record IsGroupOf (byte : ℕ) (openers : List (List ℕ)) (group : OpenerGroup) : Type 0 where
  pub nonempty : list_all is_nonempty openers ≡ true
  pub seconds : HasFlags (goes_on_behind byte) openers group.seconds
  pub wholes : HasFlags (is_whole_behind byte) openers group.wholes
  pub own : (t : List ℕ)
      → begins_with_one (tokens_of group.openers.items) (byte ∷ t)
      ≡ begins_with_one openers (byte ∷ t)

-- Beside each of the first bytes stands its group.
pub record AreGroupsOf (openers : List (List ℕ)) (firsts : List ℕ)
    (groups : List OpenerGroup) : Type 0 where
  pub as_many : length groups ≡ length firsts
  pub each : (i : ℕ) (d : OpenerGroup) → i < length firsts
      → IsGroupOf (slice_index firsts i) openers (slice_index_or groups i d)

-- No opener is empty, the list of first bytes has those of the openers, and beside each stands its
-- group.
pub record IsIndexOf (openers : List (List ℕ)) (firsts : List ℕ)
    (groups : List OpenerGroup) : Type 0 where
  pub nonempty : list_all is_nonempty openers ≡ true
  pub firsts_are : (x : ℕ) → is_one_of firsts x ≡ is_first openers x
  pub grouped : AreGroupsOf openers firsts groups
