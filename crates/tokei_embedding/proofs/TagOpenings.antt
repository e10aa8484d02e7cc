-- The opening of a tag in a part of a text, by what is found in the text.
use Rattle.std.proofs.Common.{◌≡◌, ℕ, ◌+◌, ◌-◌, ◌≤◌, List, length, take, drop, codes, Option, None, Some, option_map, IfSome, sym, ◌∙◌, ap, arith, take-take}
use Rattle.tokei_table_row.specs.Slices.{between}
use Rattle.tokei_embedding.proofs.Places.{part_from}
use Rattle.tokei_embedding.specs.Remembered.{Sought, sought}
use Rattle.tokei_embedding.specs.Searches.{first_of, last_of}
use Rattle.tokei_embedding.specs.Seen.{span_seen}
use Rattle.tokei_embedding.specs.Spans.{Span, shifted}
use Rattle.tokei_embedding.specs.Tags.{token_of, attribute_of, value_in, value_end, opening_past, opening_before, opening_at}
use Rattle.tokei_embedding.specs.declared.spans.Span as CodeSpan
use Rattle.tokei_embedding.specs.declared.tags.Tag.{Tag}

inside_is : (t : List ℕ) (from n to : ℕ) → from + n ≤ to → drop n (between t from to) ≡ between t (from + n) to
inside_is t from n to l =
    let e : n ≡ (from + n) - from = omega arith in
    ap (λ k. drop k (between t from to)) e ∙ part_from t from (from + n) to (omega arith) l

opening_inside : (tag : Tag) (t : List ℕ) (from at n to : ℕ) → n ≡ at + length (token_of tag)
    → from + n ≤ to
    → opening_at tag (between t from to) at
    ≡ opening_before (attribute_of tag) at n (between t (from + n) to)
    (last_of (codes ">") (between t (from + n) to))
opening_inside tag t from at n to e l =
    ap (λ k. opening_before (attribute_of tag) at k (drop k (between t from to)) (last_of (codes ">") (drop k (between t from to)))) (sym e)
    ∙ ap (λ x. opening_before (attribute_of tag) at n x (last_of (codes ">") x)) (inside_is t from n to l)

-- the bytes up to a place of a range
front_is : (t : List ℕ) (from to g : ℕ) → from + g ≤ to → between t from (from + g) ≡ take g (between t from to)
front_is t from to g l =
    let size : (from + g) - from ≡ g = omega arith in
    ap (λ k. take k (drop from t)) size ∙ sym (take-take g (to - from) (drop from t) (omega arith))

-- without a last `>` nothing opens
pub no_opening : (tag : Tag) (t : List ℕ) (from at n to : ℕ) (s : Sought) → s ≡ sought t (codes ">")
    → n ≡ at + length (token_of tag) → from + n ≤ to
    → None ≡ last_of s.token (between s.text (from + n) to)
    → None ≡ opening_at tag (between t from to) at
no_opening tag t from at n to s e d l h =
    ap (opening_before (attribute_of tag) at n (between t (from + n) to)) (h ∙ ap (λ x. last_of x.token (between x.text (from + n) to)) e)
    ∙ sym (opening_inside tag t from at n to d l)

-- with one, the value before it says what opens
pub opened : (tag : Tag) (t : List ℕ) (from at n to g : ℕ) (s : Sought) (value : Option Span)
    → s ≡ sought t (codes ">") → n ≡ at + length (token_of tag) → from + n + g ≤ to
    → Some g ≡ last_of s.token (between s.text (from + n) to)
    → value ≡ value_in (attribute_of tag) (between t (from + n) (from + n + g))
    → opening_past at n (between t (from + n) to) value ≡ opening_at tag (between t from to) at
opened tag t from at n to g s value e d l h v =
    ap (opening_past at n (between t (from + n) to)) (v ∙ ap (value_in (attribute_of tag)) (front_is t (from + n) to g l))
    ∙ ap (opening_before (attribute_of tag) at n (between t (from + n) to)) (h ∙ ap (λ x. last_of x.token (between x.text (from + n) to)) e)
    ∙ sym (opening_inside tag t from at n to d (omega arith))

-- it ends behind the first `>` after the value
pub opens_past : (t : List ℕ) (at n start to behind : ℕ) (s : Sought) (value moved : Option Span)
    (end : Option ℕ)
    → s ≡ sought t (codes ">") → start + behind ≤ to → behind ≡ value_end value
    → moved ≡ option_map (shifted n) value
    → end ≡ first_of s.token (between s.text (start + behind) to)
    → option_map
    (λ k. record {
      whole = record { start = at; stop = n + (behind + k + 1) };
      value = moved;
    })
    end
    ≡ opening_past at n (between t start to) value
opens_past t at n start to behind s value moved end e l b w h =
    let rest : end ≡ first_of (codes ">") (drop behind (between t start to)) =
    h ∙ ap (λ x. first_of x.token (between x.text (start + behind) to)) e
    ∙ ap (first_of (codes ">")) (sym (inside_is t start behind to l)) in
    ap (λ o. option_map (λ k. record { whole = record { start = at; stop = n + (behind + k + 1) }; value = o }) end) w
    ∙ ap (option_map (λ k. record { whole = record { start = at; stop = n + (behind + k + 1) }; value = option_map (shifted n) value })) rest
    ∙ ap (λ i. option_map (λ k. record { whole = record { start = at; stop = n + (i + k + 1) }; value = option_map (shifted n) value }) (first_of (codes ">") (drop i (between t start to)))) b

-- the place behind a value in a tag's inside
pub end_within : (o : Option CodeSpan.Span) (m : ℕ) → IfSome o (λ v. (v.start ≤ v.stop) × (v.stop ≤ m)) → value_end (option_map span_seen o) ≤ m
end_within None m h = omega arith
end_within (Some v) m h = omega (arith, h.1)
