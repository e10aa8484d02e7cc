-- Places between lines that are skipped or lie within an item: their order, what is left behind them,
-- and whether the part that begins there is walked.
use Rattle.std.proofs.Common.{◌≡◌, ℕ, ◌+◌, ◌-◌, ◌<◌, ◌≤◌, ◌||◌, ◌⊎◌, inl, inr, Bool, true, false, not, List, [], ◌∷◌, length, drop, reverse, Option, None, Some}
use Rattle.std.proofs.Common.{option_map, refl, sym, ap, ◌∙◌, arith, length-drop}
use Rattle.std.proofs.lemmas.Bool.{false≢true}
use Rattle.std.proofs.lemmas.List.{length-map, length-reverse}
use Rattle.tokei_parts.specs.Class.{is_plain}
use Rattle.tokei_parts.specs.Glance.{holds, is_walked}
use Rattle.tokei_parts.specs.Glanced.{Knows}
use Rattle.tokei_parts.specs.Items.{Mode}
use Rattle.tokei_parts.specs.LineWalk.{chain_in, item_in}
use Rattle.tokei_embedding.specs.DocComments.{first_line}
use Rattle.tokei_table_row.specs.Bytes.{line_len}
use Rattle.tokei_parts.specs.Modes.{Chain, innermost}
use Rattle.tokei_parts.specs.Seen.{chain_of}
use Rattle.tokei_parts.specs.SeenChoices.{enclosure_of, mode_of}
use Rattle.tokei_parts.specs.declared.items.Enclosure.{Enclosure}
use Rattle.tokei_parts.specs.declared.items.ItemKind.{ItemKind}
use Rattle.tokei_parts.specs.declared.items.LineItem.{LineItem}
use Rattle.tokei_parts.proofs.LineEnds.{below_or}
use Rattle.tokei_parts.proofs.PartFronts.{line_len_within}
use Rattle.tokei_count.proofs.StepReading.{line_some}

-- places in their order
pub stays : (n : ℕ) → n ≤ n
stays n = omega arith

pub stays_below : (n m : ℕ) → n ≤ n + m
stays_below n m = omega arith

pub goes_on : (a b c : ℕ) → a ≤ b → b ≤ c → a ≤ c
goes_on a b c low high = omega arith

pub goes_past : (a b c : ℕ) → a ≤ b → b < c → a < c
goes_past a b c low high = omega arith

pub goes_far : (a b c : ℕ) → a < b → b ≤ c → a < c
goes_far a b c low high = omega arith

pub goes_from : (a b m : ℕ) → b ≡ a + m → a ≤ b
goes_from a b m is = omega arith

-- at the end of a text of `n` bytes
pub ends_above : (a b n : ℕ) → a ≤ n → b ≡ n → a ≤ b
ends_above a b n low end = omega arith

pub ends_here : (text : List ℕ) (at end : ℕ) → at ≡ length text → end ≡ length text → end ≡ at + line_len (drop at text)
ends_here text at end here is = omega (arith, here, is, line_len_within (drop at text), length-drop at text)

pub ends_known : (os : List (List ℕ)) (text : List ℕ) (start next : ℕ) → start ≡ length text → next ≡ length text → Knows os text start next
ends_known os text start next here end = λ low. absurd (omega (arith, here, end, low))

pub ends_walked : (a n : ℕ) (b : Bool) → a ≡ n → a < n → b ≡ true
ends_walked a n b here low = absurd (omega (arith, here, low))

-- less is left of `n` bytes
pub less_left : (n a b : ℕ) → a < n → a < b → n - b < n - a
less_left n a b some on = omega arith

pub none_left : (n a b : ℕ) → a < n → n ≤ b → n - b < n - a
none_left n a b some end = omega arith

-- a line has a byte, where the text has one
pub line_on : (text : List ℕ) (at stop : ℕ) → at < length text → stop ≡ at + length (first_line (drop at text)) → at < stop
line_on text at stop some is = omega (arith, is, line_some text at some)

-- the first newline of the text from the place on, or its end, ends the place's line
pub front_line : (text : List ℕ) (at newline : ℕ) → at ≤ length text → newline ≤ length text → newline ≤ at + line_len (drop at text)
    → (newline < length text → newline ≡ at + line_len (drop at text)) → newline ≡ at + line_len (drop at text)
front_line text at newline within high line found = by_order (below_or newline (length text))
  where
    by_order : (newline < length text) ⊎ (length text ≤ newline) → newline ≡ at + line_len (drop at text)
    by_order (inl low) = found low
    by_order (inr end) = omega (arith, within, high, line, end, line_len_within (drop at text), length-drop at text)

-- what stops behind `next` goes over it
pub ends_over : (next stop m : ℕ) → next < stop → stop ≡ m → next < m
ends_over next stop m over is = omega (arith, over, is)

-- a line that stops behind `next`, up to which its newline was looked for, goes that far
pub line_reaches : (newline next stop n m : ℕ) → newline ≤ next → newline ≤ m → next ≤ n → (newline < n → stop ≡ newline + 1) → next < stop → next ≤ m
line_reaches newline next stop n m high line within more over = by_order (below_or newline next)
  where
    by_order : (newline < next) ⊎ (next ≤ newline) → next ≤ m
    by_order (inl low) = absurd (omega (arith, over, low, more (omega (arith, low, within))))
    by_order (inr near) = omega (arith, near, line)

-- a test has one outcome
pub one_way : (b : Bool) → b ≡ true → b ≡ false → ⊥
one_way b e f = false≢true (sym f ∙ e)

-- where no item is the innermost, none encloses the place
pub no_chain : (c : Chain) → None ≡ innermost c → c ≡ []
no_chain [] is = cc
no_chain (e ∷ c) is = cc

pub no_item : (c : Chain) (m : Mode) → m ≡ innermost c → c ≡ [] → is_plain m ≡ false → ⊥
no_item c m is empty within = false≢true (sym within ∙ ap is_plain (is ∙ ap innermost empty))

-- within an item all is walked
pub walked_within : (os : List (List ℕ)) (m n : Mode) (line : List ℕ) → m ≡ n → is_plain m ≡ false → is_walked os n line ≡ true
walked_within os m n line is within = ap (λ (x : Mode). is_walked os x line) (sym is) ∙ ap (λ (b : Bool). not b || holds os line) within

-- where no more than one item encloses the place, the innermost is all
abbrev chain_at : Mode → Chain
chain_at None = []
chain_at (Some e) = e ∷ []

pub one_item : (es : List Enclosure) (item : Option Enclosure) → length es < 2 → mode_of item ≡ innermost (chain_of es) → chain_of es ≡ chain_in item
one_item [] None few is = refl
one_item [] (Some e) few is = cc
one_item (e ∷ []) None few is = cc
one_item (e ∷ []) (Some i) few is = ap (λ (m : Mode). chain_at m) (sym is)
one_item (e ∷ i ∷ es) item few is = absurd (omega (arith, few))

-- the item that the walk of a line keeps, by its kind
pub item_is : (item : LineItem) (kind : ItemKind) → item.kind ≡ Some kind → item_in item ≡ Some (record { kind = kind; closer = item.closer })
item_is item kind e = ap (option_map (λ k. record { kind = k; closer = item.closer })) e

-- it keeps none
pub no_item_is : (item : LineItem) → item.kind ≡ None → item_in item ≡ None
no_item_is item e = ap (option_map (λ k. record { kind = k; closer = item.closer })) e

-- where an item encloses the place, the innermost is no plain text
pub item_within : (c : Chain) → 0 < length c → is_plain (innermost c) ≡ false
item_within [] some = absurd (omega (arith, some))
item_within (e ∷ c) some = refl

-- where items enclose the place, all is walked
pub walked_nested : (os : List (List ℕ)) (es : List Enclosure) (line : List ℕ) → 1 < length es → is_walked os (innermost (chain_of es)) line ≡ true
walked_nested os es line nested =
    walked_within os (innermost (chain_of es)) (innermost (chain_of es)) line refl
    (item_within (chain_of es) (omega (arith, nested, length-map (reverse es) enclosure_of, length-reverse es)))
