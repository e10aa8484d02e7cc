-- The stack of the code and the chain of the definitions.
use Rattle.std.proofs.Common.{◌≡◌, ◌<◌, ◌∙◌, ℕ, List, [], ◌∷◌, ◌++◌, None, map, length, ap, sym, subst, refl, Option, Some, is_some, true}
use Rattle.std.proofs.lemmas.List.{reverse-append}
use Rattle.tokei_parts.specs.declared.items.Enclosure as Code
use Rattle.tokei_parts.proofs.Childless.{within_no_child, within_no_line_comment}
use Rattle.tokei_parts.proofs.Stepping.{goes_opener, goes_closer, no_closer}
use Rattle.tokei_parts.specs.Choice.{Choice, choice, or_else}
use Rattle.tokei_parts.specs.Choice.Choice.{closes, opens, child_opens, begins_line_comment, takes_byte}
use Rattle.tokei_parts.specs.Items.{Block, Mode, enclosure}
use Rattle.tokei_table_row.specs.Bytes.{line_len}
use Rattle.tokei_parts.specs.Modes.{Chain, innermost}
use Rattle.tokei_parts.specs.Progress.{Goes, OpensChild, OpensInLine, IsClosable}
use Rattle.tokei_parts.specs.SeenChoices.{enclosure_of}
use Rattle.tokei_parts.specs.Seen.{chain_of}
use Rattle.tokei_parts.specs.declared.items.ItemKind.{ItemKind}
use Rattle.tokei_table.specs.Row.{Row, Pair}
use Rattle.tokei_table.specs.Sound.{IsSound}

pub chain_of-push : (xs : List Code.Enclosure) (x : Code.Enclosure) → chain_of (xs ++ x ∷ []) ≡ enclosure_of x ∷ chain_of xs
chain_of-push xs x = ap (map enclosure_of) (reverse-append xs (x ∷ []))

module _ (g : Row) (block : ℕ → List ℕ → Option Block) (l : ℕ) (s : IsSound g) (o : OpensInLine block) where
  abbrev at_stack : List Code.Enclosure → List ℕ → Choice
  at_stack xs u = choice g (innermost (chain_of xs)) (block l u) u

  -- what a pop leaves
  pub closer_pops : (xs new : List Code.Enclosure) (x : Code.Enclosure) (u : List ℕ) → xs ≡ new ++ x ∷ [] → IsClosable (chain_of xs) → 0 < line_len u
      → at_stack xs u ≡ closes → Goes g block l (chain_of xs) (length x.closer.now) 1 (chain_of new) u
  closer_pops xs new x u is k some e =
      let chain_is : chain_of xs ≡ enclosure_of x ∷ chain_of new = ap chain_of is ∙ chain_of-push new x in
      subst (λ (c : Chain). Goes g block l c (length x.closer.now) 1 (chain_of new) u) (sym chain_is)
      (goes_closer g block l s o (enclosure_of x) (chain_of new) u (subst IsClosable chain_is k) some (subst (λ (c : Chain). choice g (innermost c) (block l u) u ≡ closes) chain_is e))

  -- what a push leaves
  pub opener_pushes : (xs new : List Code.Enclosure) (x : Code.Enclosure) (q : ItemKind) (p : Pair)
      (u : List ℕ)
      → new ≡ xs ++ x ∷ [] → enclosure_of x ≡ enclosure q p → IsClosable (chain_of xs)
      → 0 < line_len u
      → at_stack xs u ≡ opens q p → Goes g block l (chain_of xs) (length p.opener) 1 (chain_of new) u
  opener_pushes xs new x q p u is same k some e =
      let chain_is : chain_of new ≡ enclosure q p ∷ chain_of xs = ap chain_of is ∙ chain_of-push xs x ∙ ap (λ h. h ∷ chain_of xs) same in
      subst (λ (c : Chain). Goes g block l (chain_of xs) (length p.opener) 1 c u) (sym chain_is) (goes_opener g block l s o (chain_of xs) u k some q p e)

  pub no_pop : (xs : List Code.Enclosure) (u : List ℕ) → xs ≡ [] → at_stack xs u ≡ closes → ⊥
  no_pop xs u is e = no_closer g block l s o u (subst (λ (w : List Code.Enclosure). at_stack w u ≡ closes) is e)

-- a child opens in plain text alone, where it can
pub child_opens-plain : (g : Row) (block : ℕ → List ℕ → Option Block) (l : ℕ)
    (xs : List Code.Enclosure) (u : List ℕ)
    → is_some (block l u) ≡ true
    → choice g (innermost (chain_of xs)) (block l u) u ≡ or_else (block l u) child_opens takes_byte
    → (k : Block) × OpensChild g block l (chain_of xs) k (chain_of xs) u
child_opens-plain g block l xs u s e = by_block (block l u) refl s e
  where
    by_chain : (k : Block) (c : Chain) → choice g (innermost c) (block l u) u ≡ child_opens k → OpensChild g block l c k c u
    by_chain k [] e = record { before = refl; after = refl; chosen = e }
    by_chain k (h ∷ c) e = absurd (within_no_child g h (block l u) u k e)

    by_block : (o : Option Block) → block l u ≡ o → is_some o ≡ true
        → choice g (innermost (chain_of xs)) (block l u) u ≡ or_else o child_opens takes_byte
        → (k : Block) × OpensChild g block l (chain_of xs) k (chain_of xs) u
    by_block None f s e = cc
    by_block (Some k) f s e = (k, by_chain k (chain_of xs) e)

-- a line comment begins in plain text alone
pub line_comment_plain : (g : Row) (block : ℕ → List ℕ → Option Block) (l : ℕ) (m : Mode) (u : List ℕ) → choice g m (block l u) u ≡ begins_line_comment → m ≡ None
line_comment_plain g block l None u e = refl
line_comment_plain g block l (Some h) u e = absurd (within_no_line_comment g h (block l u) u e)
