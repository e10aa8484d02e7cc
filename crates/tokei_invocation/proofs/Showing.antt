-- Notes that are shown, one by one.
use Rattle.std.proofs.Common.{◌≡◌, ◌∙◌, ℕ, ◌+◌, ◌<◌, ◌≤◌, List, [], ◌∷◌, ◌++◌, ap, length, get_or, map, take, take_all, sym, subst}
use Rattle.std.proofs.lemmas.List.{map-append}
use Rattle.tokei_invocation.proofs.Taken.{taken_next}
use Rattle.tokei_invocation.specs.Shown.{AreShown, IsShown, shown_note}
use Rattle.tokei_walk.specs.declared.kept_file.Note.{Note}

-- one more is shown behind them
pub shown_more : (ns ss : List Note) (n s : Note) → AreShown ns ss → IsShown n s → AreShown (ns ++ n ∷ []) (ss ++ s ∷ [])
shown_more [] [] n s before this = (this, tt)
shown_more [] (t ∷ ss) n s before this = absurd before
shown_more (m ∷ ns) [] n s before this = absurd before
shown_more (m ∷ ns) (t ∷ ss) n s before this = (before.0, shown_more ns ss n s before.1 this)

-- the next one is shown behind the first
pub shown_next : (ns ss : List Note) (i : ℕ) (n s : Note) → AreShown (take i ns) ss → i < length ns → n ≡ get_or ns i n → IsShown n s → AreShown (take (i + 1) ns) (ss ++ s ∷ [])
shown_next ns ss i n s before within is this =
    subst (λ ms. AreShown ms (ss ++ s ∷ [])) (taken_next ns i n within is) (shown_more (take i ns) ss n s before this)

-- the next one has no words either
pub plain_next : (ns ss : List Note) (i : ℕ) (n s : Note) → ss ≡ map shown_note (take i ns) → i < length ns → n ≡ get_or ns i n → s ≡ shown_note n → ss ++ s ∷ [] ≡ map shown_note (take (i + 1) ns)
plain_next ns ss i n s before within is this =
    ap (λ (xs : List Note). xs ++ s ∷ []) before ∙ ap (λ (x : Note). map shown_note (take i ns) ++ x ∷ []) this
    ∙ sym (map-append shown_note (take i ns) (n ∷ [])) ∙ ap (λ (ms : List Note). map shown_note ms) (taken_next ns i n within is)

-- where none is left, all are shown
pub shown_all : (ns ss : List Note) (i : ℕ) → AreShown (take i ns) ss → length ns ≤ i → AreShown ns ss
shown_all ns ss i shown over = subst (λ ms. AreShown ms ss) (take_all i ns over) shown
