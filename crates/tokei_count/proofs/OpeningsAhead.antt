-- The openings of what is left of a text, choice by choice.
use Rattle.std.proofs.Common.{◌≡◌, ℕ, ◌+◌, ◌-◌, ◌<◌, Bool, true, false, cond, List, [], ◌∷◌, length, drop, Option, Some, None, refl, sym, ◌∙◌, ap, arith}
use Rattle.std.proofs.lemmas.List.{drop-drop}
use Rattle.tokei_parts.proofs.Ahead.{chosen as chosen_of, derive_drop, derive_less, derive_less_by}
use Rattle.tokei_parts.specs.Choice.{Choice}
use Rattle.tokei_parts.specs.Choice.Choice.{closes, escapes, child_opens, opens, passes_over, begins_line_comment, takes_byte}
use Rattle.tokei_parts.specs.Derivation.{Body, before, behind, follow, derive, second}
use Rattle.tokei_parts.specs.Items.{Block, Item, Items, Enclosure, enclosure, enclosing_item}
use Rattle.tokei_parts.specs.Items.Item.{one, escaped, passed_over, line_comment, child}
use Rattle.tokei_embedding.specs.DocComments.{first_line}
use Rattle.tokei_parts.specs.Modes.{Chain, innermost}
use Rattle.tokei_count.specs.OpeningItems.{openings_in, openings_by}
use Rattle.tokei_parts.specs.Progress.{body as body_of}
use Rattle.tokei_parts.specs.declared.items.ItemKind.{ItemKind}
use Rattle.tokei_parts.specs.declared.items.ItemKind.TheVariants.{DocString, VerbatimString, OrdinaryString, MultiLineComment}
use Rattle.tokei_table.specs.Row.{Row, Pair}

-- an item with a body is one opening beside those of its body
openings_by-enclosing_item : (k : ItemKind) (p : Pair) (is : Items) (closed : Bool) → openings_by (enclosing_item k p is closed) ≡ 1 + openings_in is
unfolding openings_in
openings_by-enclosing_item DocString p is closed = refl
openings_by-enclosing_item VerbatimString p is closed = refl
openings_by-enclosing_item OrdinaryString p is closed = refl
openings_by-enclosing_item MultiLineComment p is closed = refl

module _ (g : Row) (block : ℕ → List ℕ → Option Block) where
  abbrev body : ℕ → Chain → List ℕ → Body
  body = body_of g block

  -- the openings of what is left of the text: of the body that is under way, and of the bodies around it
  unfoldable pub openings_ahead : ℕ → Chain → List ℕ → ℕ
  openings_ahead l [] t = openings_in (body l [] t).items
  openings_ahead l (e ∷ c) t = openings_in (body l (e ∷ c) t).items + cond (body l (e ∷ c) t).closed (openings_ahead l c (drop (body l (e ∷ c) t).taken t)) 0

  -- those behind the body under way
  beyond : ℕ → Chain → Bool → List ℕ → ℕ
  beyond l [] closed t = 0
  beyond l (e ∷ c) closed t = cond closed (openings_ahead l c t) 0

  openings_ahead-is : (l : ℕ) (c : Chain) (t : List ℕ) → openings_ahead l c t ≡ openings_in (body l c t).items + beyond l c (body l c t).closed (drop (body l c t).taken t)
  unfolding openings_ahead beyond
  openings_ahead-is l [] t = omega arith
  openings_ahead-is l (e ∷ c) t = refl

  nothing_beyond : (l : ℕ) (c : Chain) (t : List ℕ) → beyond l c false t ≡ 0
  unfolding beyond
  nothing_beyond l [] t = refl
  nothing_beyond l (e ∷ c) t = refl

  -- an item in front
  openings_ahead-item : (l : ℕ) (c : Chain) (t : List ℕ) (i : Item) (n : ℕ) → body l c t ≡ before i n (body l c (drop n t)) → openings_ahead l c t ≡ openings_by i + openings_ahead l c (drop n t)
  unfolding openings_in
  openings_ahead-item l c t i n e =
      let rest : Body = body l c (drop n t) in
      let here : openings_ahead l c t
      ≡ openings_by i + openings_in rest.items
      + beyond l c rest.closed (drop (n + rest.taken) t) =
      openings_ahead-is l c t
      ∙ ap (λ (d : Body). openings_in d.items + beyond l c d.closed (drop d.taken t)) e in
      let there : beyond l c rest.closed (drop (n + rest.taken) t) ≡ beyond l c rest.closed (drop rest.taken (drop n t)) = ap (beyond l c rest.closed) (sym (drop-drop rest.taken n t)) in
      omega (arith, here, there, openings_ahead-is l c (drop n t))

  module _ (l : ℕ) (c : Chain) (b : ℕ) (t : List ℕ) where
    abbrev chosen : Choice → Type 0
    chosen = chosen_of g block l c b t

    by_choice : (x : Choice) → chosen x → body l c (b ∷ t) ≡ follow x b t l (innermost c) (derive g block t)
    unfolding derive
    by_choice x e = ap (λ w. follow w b t l (innermost c) (derive g block t)) e

    pub openings_ahead-byte : chosen takes_byte → openings_ahead l c (b ∷ t) ≡ 0 + openings_ahead l c t
    unfolding openings_in
    openings_ahead-byte e = openings_ahead-item l c (b ∷ t) (one b) 1 (by_choice takes_byte e)

    pub openings_ahead-escape : chosen escapes → openings_ahead l c (b ∷ t) ≡ 0 + openings_ahead l c (drop 2 (b ∷ t))
    unfolding openings_in
    openings_ahead-escape e =
        openings_ahead-item l c (b ∷ t) (escaped b (second t)) 2 (by_choice escapes e ∙ ap (before (escaped b (second t)) 2) (derive_drop g block t 1 l (innermost c)))

    pub openings_ahead-pass : (p : Pair) → 0 < length p.opener → chosen (passes_over p) → openings_ahead l c (b ∷ t) ≡ 1 + openings_ahead l c (drop (length p.opener) (b ∷ t))
    unfolding openings_in
    openings_ahead-pass p h e =
        openings_ahead-item l c (b ∷ t) (passed_over p) (length p.opener)
        (by_choice (passes_over p) e ∙ ap (before (passed_over p) (length p.opener)) (derive_less_by g block b t (length p.opener) l (innermost c) h))

    pub openings_ahead-rest : 0 < length (first_line (b ∷ t)) → chosen begins_line_comment → openings_ahead l c (b ∷ t) ≡ 0 + openings_ahead l c (drop (length (first_line (b ∷ t))) (b ∷ t))
    unfolding openings_in
    openings_ahead-rest h e =
        let line : List ℕ = first_line (b ∷ t) in
        openings_ahead-item l c (b ∷ t) (line_comment line) (length line)
        (by_choice begins_line_comment e ∙ ap (before (line_comment line) (length line)) (derive_less_by g block b t (length line) l (innermost c) h))

    opened_by_end : (k : ItemKind) (p : Pair) → 0 < length p.opener → (is : Items) (n : ℕ) (closed : Bool)
        → derive g block (drop (length p.opener) (b ∷ t)) 0 l (Some (enclosure k p)) ≡ record { items = is; taken = n; closed = closed }
        → body l c (b ∷ t) ≡ before (enclosing_item k p is closed) (length p.opener + n) (behind closed (derive g block t (length p.opener - 1 + n) l (innermost c)))
        → openings_ahead l c (b ∷ t) ≡ 1 + openings_ahead l (enclosure k p ∷ c) (drop (length p.opener) (b ∷ t))
    unfolding openings_ahead openings_in
    opened_by_end k p h is n closed d e =
        let u : List ℕ = drop (length p.opener) (b ∷ t) in
        let inner : openings_ahead l (enclosure k p ∷ c) u
        ≡ openings_in is + cond closed (openings_ahead l c (drop n u)) 0 =
        ap
        (λ (w : Body). openings_in w.items
        + cond w.closed (openings_ahead l c (drop w.taken u)) 0)
        d in
        by_end closed inner e
      where
        by_end : (x : Bool) → openings_ahead l (enclosure k p ∷ c) (drop (length p.opener) (b ∷ t)) ≡ openings_in is + cond x (openings_ahead l c (drop n (drop (length p.opener) (b ∷ t)))) 0
            → body l c (b ∷ t) ≡ before (enclosing_item k p is x) (length p.opener + n) (behind x (derive g block t (length p.opener - 1 + n) l (innermost c)))
            → openings_ahead l c (b ∷ t) ≡ 1 + openings_ahead l (enclosure k p ∷ c) (drop (length p.opener) (b ∷ t))
        by_end true inner e =
            let item : Item = enclosing_item k p is true in
            let rest : derive g block t (length p.opener - 1 + n) l (innermost c) ≡ body l c (drop (length p.opener + n) (b ∷ t)) = derive_less g block b t (length p.opener) n l (innermost c) h in
            let here : openings_ahead l c (b ∷ t)
            ≡ openings_by item + openings_ahead l c (drop (length p.opener + n) (b ∷ t)) =
            openings_ahead-item l c (b ∷ t) item (length p.opener + n)
            (e ∙ ap (before item (length p.opener + n)) rest) in
            let there : openings_ahead l c (drop n (drop (length p.opener) (b ∷ t)))
            ≡ openings_ahead l c (drop (length p.opener + n) (b ∷ t)) =
            ap (openings_ahead l c) (drop-drop n (length p.opener) (b ∷ t)) in
            omega (arith, here, there, inner, openings_by-enclosing_item k p is true)
        by_end false inner e =
            let item : Item = enclosing_item k p is false in
            let here : openings_ahead l c (b ∷ t)
            ≡ openings_by item + 0 + beyond l c false (drop (length p.opener + n + 0) (b ∷ t)) =
            openings_ahead-is l c (b ∷ t)
            ∙ ap (λ (w : Body). openings_in w.items + beyond l c w.closed (drop w.taken (b ∷ t)))
            e in
            omega (arith, here, inner, nothing_beyond l c (drop (length p.opener + n + 0) (b ∷ t)), openings_by-enclosing_item k p is false)

    pub openings_ahead-opener : (k : ItemKind) (p : Pair) → 0 < length p.opener → chosen (opens k p)
        → openings_ahead l c (b ∷ t)
        ≡ 1 + openings_ahead l (enclosure k p ∷ c) (drop (length p.opener) (b ∷ t))
    openings_ahead-opener k p h e =
        let inner : Body = derive g block t (length p.opener - 1) l (Some (enclosure k p)) in
        opened_by_end k p h inner.items inner.taken inner.closed (sym (derive_less_by g block b t (length p.opener) l (Some (enclosure k p)) h)) (by_choice (opens k p) e)

  pub openings_ahead-closer : (l : ℕ) (e : Enclosure) (c : Chain) (b : ℕ) (t : List ℕ)
      → chosen l (e ∷ c) b t closes
      → openings_ahead l (e ∷ c) (b ∷ t) ≡ 0 + openings_ahead l c (drop (length e.closer) (b ∷ t))
  unfolding openings_ahead openings_in
  openings_ahead-closer l e c b t h = ap (λ (w : Body). openings_in w.items + cond w.closed (openings_ahead l c (drop w.taken (b ∷ t))) 0) (by_choice l (e ∷ c) b t closes h)

  pub openings_ahead-child : (l : ℕ) (b : ℕ) (t : List ℕ) (k : Block) → 0 < k.size
      → chosen l [] b t (child_opens k)
      → openings_ahead l [] (b ∷ t)
      ≡ 0 + openings_ahead (length (b ∷ t) - k.size) [] (drop k.size (b ∷ t))
  unfolding openings_ahead openings_in
  openings_ahead-child l b t k h e =
      ap (λ (w : Body). openings_in w.items) (by_choice l [] b t (child_opens k) e ∙ ap (before (child k _) k.size) (derive_less_by g block b t k.size (length (b ∷ t) - k.size) None h))

  -- behind the text nothing opens
  pub openings_ahead-end : (l : ℕ) (c : Chain) → openings_ahead l c [] ≡ 0
  unfolding openings_ahead openings_in derive
  openings_ahead-end l [] = refl
  openings_ahead-end l (e ∷ c) = refl
