-- Places of an item at which each choice takes its byte.
use Rattle.std.proofs.Common.{◌≡◌, ℕ, ◌+◌, ◌<◌, ◌≤◌, ◌==◌, ◌⊎◌, inl, inr, Bool, true, false, List, [], ◌∷◌, length, length-drop, drop, get_or, None, Some, refl, sym, ap, ◌∙◌, subst, arith}
use Rattle.std.proofs.lemmas.Bool.Decides.{Decides-eqb}
use Rattle.std.proofs.lemmas.List.{get_or-drop}
use Rattle.std.proofs.lemmas.List.Prefix.{front_reads}
use Rattle.std.proofs.lemmas.Slice.Eq.{starts_is}
use Rattle.tokei_table.specs.Bytes.{begins}
use Rattle.tokei_parts.specs.Calm.{IsCalm, TakesByteAt}
use Rattle.tokei_parts.specs.PlainBytes.{BeginsNoneWithin, IsOutside, IsPlainByte}
use Rattle.tokei_parts.specs.ReadingOf.{row_in}
use Rattle.tokei_parts.specs.SeenChoices.{enclosure_of, mode_of}
use Rattle.tokei_parts.specs.declared.items.Enclosure as CodeEnclosure
use Rattle.tokei_parts.specs.declared.items.ItemKind.{ItemKind}
use Rattle.tokei_parts.specs.declared.items.ItemKind.TheVariants.{MultiLineComment}
use Rattle.tokei_parts.specs.declared.reading.Reading.{Reading}
use Rattle.tokei_parts.proofs.Fits.{and_right}
use Rattle.tokei_parts.proofs.LineEnds.{below_or}
use Rattle.tokei_parts.proofs.PlainBytes.{byte_within_at, plain_byte_at}

-- bytes at which nothing but the byte itself can begin
pub calm_bytes : (r : Reading) (item : CodeEnclosure.Enclosure) (at to : ℕ) → to ≤ length r.text.now
    → ((p : ℕ) → at ≤ p → p < to → IsPlainByte r.matchers.now (mode_of (Some item)) (get_or r.text.now p 0)) → IsCalm (row_in r) item r.text.now at to
calm_bytes r item at to within plain =
    λ p low high. plain_byte_at (row_in r) r.sound (mode_of (Some item)) None r.text.now p r.matchers.now r.matched (omega (arith, within, high)) (plain p low high) (λ none. refl)

begins_fits : (token u : List ℕ) → begins token u ≡ true → length token ≤ length u
begins_fits [] u h = omega arith
begins_fits (x ∷ token) [] h = cc
begins_fits (x ∷ token) (y ∷ u) h = omega (arith, begins_fits token u (and_right (x == y) (begins token u) h))

-- a token doesn't stand where its first two bytes don't
apart : (text token : List ℕ) (p : ℕ) → 2 ≤ length token
    → (p + 1 < length text → get_or text p 0 ≡ get_or token 0 0 → get_or text (p + 1) 0 ≡ get_or token 1 0 → ⊥) → begins token (drop p text) ≡ false
apart text token p two never = by_test (begins token (drop p text)) refl
  where
    reads : begins token (drop p text) ≡ true → (k : ℕ) → k < 2 → get_or text (p + k) 0 ≡ get_or token k 0
    reads h k few =
        sym (get_or-drop p text k 0)
        ∙ front_reads 0 (drop p text) token (drop (length token) (drop p text)) ((starts_is Decides-eqb (drop p text) token (begins token (drop p text)) refl).0 h) k (omega (arith, few, two))

    by_test : (x : Bool) → begins token (drop p text) ≡ x → begins token (drop p text) ≡ false
    by_test false h = h
    by_test true h =
        let fits : length token ≤ length (drop p text) = begins_fits token (drop p text) h in
        absurd (never (omega (arith, two, fits, length-drop p text)) (ap (λ n. get_or text n 0) (omega arith) ∙ reads h 0 (omega arith)) (reads h 1 (omega arith)))

-- bytes of a comment at which nothing can begin but its closer, whose first two bytes don't stand there
pub calm_unclosed : (r : Reading) (item : CodeEnclosure.Enclosure) (at to : ℕ) → item.kind ≡ MultiLineComment → 2 ≤ length item.closer.now → to ≤ length r.text.now
    → ((p : ℕ) → at ≤ p → p < to → IsOutside r.matchers.now.begins_in_comment (get_or r.text.now p 0))
    → ((p : ℕ) → at ≤ p → p < to → p + 1 < length r.text.now → get_or r.text.now p 0 ≡ get_or item.closer.now 0 0 → get_or r.text.now (p + 1) 0 ≡ get_or item.closer.now 1 0 → ⊥)
    → IsCalm (row_in r) item r.text.now at to
calm_unclosed r item at to kind two within none unclosed =
    λ p low high.
    let begun : BeginsNoneWithin r.matchers.now item.kind (get_or r.text.now p 0) = subst (λ (k : ItemKind). BeginsNoneWithin r.matchers.now k (get_or r.text.now p 0)) (sym kind) (none p low high) in
    byte_within_at (row_in r) r.sound (enclosure_of item) None r.text.now p r.matchers.now r.matched (omega (arith, within, high)) begun (apart r.text.now item.closer.now p two (unclosed p low high))

-- a stretch, and another one behind it
pub calm_both : (r : Reading) (item : CodeEnclosure.Enclosure) (at next to : ℕ) → IsCalm (row_in r) item r.text.now at next
    → IsCalm (row_in r) item r.text.now next to → IsCalm (row_in r) item r.text.now at to
calm_both r item at next to before behind = λ p low high. by_case p low high (below_or p next)
  where
    by_case : (p : ℕ) → at ≤ p → p < to → (p < next) ⊎ (next ≤ p) → TakesByteAt (row_in r) item r.text.now p
    by_case p low high (inl b) = before p low b
    by_case p low high (inr b) = behind p b high

-- a search that stays at its place or goes no further than to its end
pub high_end : (at end to : ℕ) → at ≤ to → (at < end → end ≤ to) → end ≤ to
high_end at end to order high = by_case (below_or at end)
  where
    by_case : (at < end) ⊎ (end ≤ at) → end ≤ to
    by_case (inl h) = high h
    by_case (inr h) = omega (arith, h, order)

-- a stretch, a byte, and a stretch behind it
pub calm_on : (r : Reading) (item : CodeEnclosure.Enclosure) (at next to : ℕ) → IsCalm (row_in r) item r.text.now at next → TakesByteAt (row_in r) item r.text.now next
    → IsCalm (row_in r) item r.text.now (next + 1) to → IsCalm (row_in r) item r.text.now at to
calm_on r item at next to before here behind = λ p low high. by_case p low high (below_or p next)
  where
    by_case : (p : ℕ) → at ≤ p → p < to → (p < next) ⊎ (next ≤ p) → TakesByteAt (row_in r) item r.text.now p
    by_case p low high (inl b) = before p low b
    by_case p low high (inr b) = by_next p low high (below_or next p) b
      where
        by_next : (p : ℕ) → at ≤ p → p < to → (next < p) ⊎ (p ≤ next) → next ≤ p → TakesByteAt (row_in r) item r.text.now p
        by_next p low high (inl more) b = behind p (omega (arith, more)) high
        by_next p low high (inr same) b = let is : next ≡ p = omega (arith, same, b) in subst (TakesByteAt (row_in r) item r.text.now) is here
