-- A token doesn't stand at the front of a text that has another byte where the token ends.
use Rattle.std.proofs.Common.{◌≡◌, ℕ, ◌<◌, ◌-◌, Bool, true, false, not, nat_eq, List, length, drop, take, get_or, slice_index_or, refl, ◌∙◌, ap, arith}
use Rattle.std.proofs.lemmas.List.{length-take-le}
use Rattle.std.proofs.lemmas.Bool.Decides.{Decides-eqb}
use Rattle.std.proofs.lemmas.Slice.Eq.{starts_is}
use Rattle.std.proofs.lemmas.List.Prefix.{front_reads}
use Rattle.tokei_table_row.specs.Bytes.{begins}

same_end : (token text : List ℕ) → 0 < length token → begins token text ≡ true
    → get_or text (length token - 1) 0 ≡ get_or token (length token - 1) 0
same_end token text some h =
    front_reads 0 text token (drop (length token) text)
    ((starts_is Decides-eqb text token (begins token text) refl).0 h)
    (length token - 1) (omega (arith, some))

pub apart_at_end : (token text : List ℕ) (byte : ℕ) → 0 < length token
    → byte ≡ get_or text (length (take (length token - 1) token)) 0
    → not (nat_eq byte (slice_index_or token (length token - 1) 0)) ≡ true
    → begins token text ≡ false
apart_at_end token text byte some at apart = by (begins token text) refl
  where
    place : length (take (length token - 1) token) ≡ length token - 1
    place = length-take-le (length token - 1) token (omega (arith, some))

    here : begins token text ≡ true → byte ≡ get_or token (length token - 1) 0
    here h = at ∙ ap (λ i. get_or text i 0) place ∙ same_end token text some h

    by : (b : Bool) → begins token text ≡ b → begins token text ≡ false
    by false h = h
    by true h = let same = here h in grind (arith, same, apart)
