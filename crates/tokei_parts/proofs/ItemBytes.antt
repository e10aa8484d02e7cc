-- Bytes at which nothing can begin in an item, nor its closer.
use Rattle.std.proofs.Common.{◌≡◌, ◌⊎◌, inl, inr, ℕ, ◌==◌, ◌≤◌, false, List, [], ◌∷◌, length, get_or, sym, subst, arith}
use Rattle.tokei_bytes.specs.OneOf.{is_one_of}
use Rattle.tokei_table.specs.FirstOpener.{is_first_of}
use Rattle.tokei_parts.specs.Matchers.{Matchers}
use Rattle.tokei_parts.specs.PlainBytes.{BeginsNoneWithin, IsOutside}
use Rattle.tokei_parts.specs.declared.items.ItemKind.{ItemKind}
use Rattle.tokei_parts.specs.declared.items.ItemKind.TheVariants.{DocString, VerbatimString, OrdinaryString}
use Rattle.tokei_parts.specs.declared.items.ItemKind.TheVariants.{MultiLineComment}
use Rattle.tokei_parts.proofs.PlainBytes.{none_of_two}

-- a string's kind
abbrev IsString : ItemKind → Type 0
IsString kind = (kind ≡ DocString) ⊎ ((kind ≡ VerbatimString) ⊎ (kind ≡ OrdinaryString))

-- nothing begins at the byte in an item of the kind with that closer
abbrev pub IsNone : Matchers → ItemKind → List ℕ → ℕ → Type 0
IsNone m kind closer b = BeginsNoneWithin m kind b × (is_first_of b closer ≡ false) × (closer ≡ [] → ⊥)

no_comment : IsString MultiLineComment → ⊥
no_comment is = elim is [
  | inl e ↦ cc
  | inr e ↦ elim e [ inl f ↦ cc | inr f ↦ cc ]
]

no_backslash : (m : Matchers) (kind : ItemKind) (b : ℕ) → IsString kind → (b == 92) ≡ false → BeginsNoneWithin m kind b
no_backslash m DocString b is h = h
no_backslash m VerbatimString b is h = h
no_backslash m OrdinaryString b is h = h
no_backslash m MultiLineComment b is h = absurd (no_comment is)

pub string_byte : (m : Matchers) (kind : ItemKind) (closer : List ℕ) (b : ℕ) → IsString kind → 1 ≤ length closer
    → is_one_of (get_or closer 0 0 ∷ 92 ∷ get_or closer 0 0 ∷ 92 ∷ []) b ≡ false → IsNone m kind closer b
string_byte m kind [] b is some none = absurd (omega (arith, some))
string_byte m kind (a ∷ t) b is some none = let both = none_of_two a 92 b none in (no_backslash m kind b is both.0, both.1, λ e. cc)

pub comment_byte : (m : Matchers) (kind : ItemKind) (closer : List ℕ) (b : ℕ) → kind ≡ MultiLineComment → 1 ≤ length closer
    → IsOutside m.begins_in_comment b → (b == get_or closer 0 0) ≡ false → IsNone m kind closer b
comment_byte m kind [] b is some none unlike = absurd (omega (arith, some))
comment_byte m kind (a ∷ t) b is some none unlike = (subst (λ (k : ItemKind). BeginsNoneWithin m k b) (sym is) none, unlike, λ e. cc)
