-- Bytes at which nothing but the byte itself, or a child, can begin.
use Rattle.std.specs.Prelude.{◌≡◌, ℕ, ◌<◌, ◌==◌, Bool, false, List, [], None, Some}
use Rattle.tokei_bytes.specs.ByteSets.{is_in}
use Rattle.tokei_table.specs.Bytes.{backslash}
use Rattle.tokei_table.specs.FirstOpener.{is_first_of}
use Rattle.tokei_parts.specs.Items.{Mode}
use Rattle.tokei_parts.specs.Matchers.{Matchers}
use Rattle.tokei_parts.specs.declared.items.ItemKind.{ItemKind}
use Rattle.tokei_parts.specs.declared.items.ItemKind.TheVariants.{DocString, VerbatimString, OrdinaryString}
use Rattle.tokei_parts.specs.declared.items.ItemKind.TheVariants.{MultiLineComment}

-- a byte that isn't in the set of those whose flags are set
pub record IsOutside (flags : List Bool) (byte : ℕ) : Type 0 where
  pub small : byte < 256
  pub outside : is_in flags byte ≡ false

-- no escape, opener or line comment begins at the byte, by the matchers
abbrev pub BeginsNone : Matchers → ℕ → Type 0
BeginsNone matchers byte = IsOutside matchers.begins byte

-- in a string nothing but an escape begins, by its backslash, and the closer
abbrev pub BeginsNoneWithin : Matchers → ItemKind → ℕ → Type 0
BeginsNoneWithin matchers DocString byte = (byte == backslash) ≡ false
BeginsNoneWithin matchers VerbatimString byte = (byte == backslash) ≡ false
BeginsNoneWithin matchers OrdinaryString byte = (byte == backslash) ≡ false
BeginsNoneWithin matchers MultiLineComment byte = IsOutside matchers.begins_in_comment byte

-- the closer of the innermost item doesn't begin at the byte, and nothing else does
abbrev pub IsPlainByte : Matchers → Mode → ℕ → Type 0
IsPlainByte matchers None byte = BeginsNone matchers byte
IsPlainByte matchers (Some e) byte =
    BeginsNoneWithin matchers e.kind byte × (is_first_of byte e.closer ≡ false)
    × (e.closer ≡ [] → ⊥)
