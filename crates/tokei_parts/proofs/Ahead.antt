-- What stands behind a place, choice by choice.
use Rattle.std.proofs.Common.{◌≡◌, ℕ, suc, zero, ◌+◌, ◌-◌, ◌<◌, Bool, true, false, cond, List, [], ◌∷◌, ◌++◌, length, take, drop, Option, None, Some, refl, sym, ◌∙◌, ap, append_assoc, arith}
use Rattle.std.proofs.lemmas.List.{drop-drop, append-nil}
use Rattle.tokei_parts.specs.Choice.{Choice, choice}
use Rattle.tokei_parts.specs.Choice.Choice.{closes, escapes, child_opens, opens, passes_over, begins_line_comment, takes_byte}
use Rattle.tokei_parts.specs.Derivation.{Body, before, behind, follow, derive, second}
use Rattle.tokei_parts.specs.Items.{Block, Item, Items, Enclosure, Mode, enclosure, enclosing_item}
use Rattle.tokei_parts.specs.Items.Item.{one, escaped, passed_over, line_comment, child}
use Rattle.tokei_embedding.specs.DocComments.{first_line}
use Rattle.tokei_parts.specs.Modes.{Mark, Chain, innermost, marks, marks_of, of_choice, closing}
use Rattle.tokei_parts.specs.Modes.Mark.{byte_at, child_at}
use Rattle.tokei_parts.specs.Progress.{body as body_of, marks_ahead as marks_ahead_of}
use Rattle.tokei_parts.specs.declared.items.ItemKind.{ItemKind}
use Rattle.tokei_parts.specs.declared.items.ItemKind.TheVariants.{DocString, VerbatimString, OrdinaryString, MultiLineComment}
use Rattle.tokei_table.specs.Row.{Row, Pair}

-- an item with a body has the marks of its opener, its body and, where that is closed, its closer
pub marks-enclosing_item : (c : Chain) (k : ItemKind) (p : Pair) (is : Items) (closed : Bool)
    → marks_of c (enclosing_item k p is closed)
    ≡ of_choice (enclosure k p ∷ c) p.opener
    ++ (marks (enclosure k p ∷ c) is
    ++ cond closed (closing (enclosure k p ∷ c) c p.closer) [])
unfolding marks
marks-enclosing_item c DocString p is closed = refl
marks-enclosing_item c VerbatimString p is closed = refl
marks-enclosing_item c OrdinaryString p is closed = refl
marks-enclosing_item c MultiLineComment p is closed = refl

module _ (g : Row) (block : ℕ → List ℕ → Option Block) where
  -- to skip is to derive what is left
  pub derive_drop : (t : List ℕ) (n l : ℕ) (m : Mode) → derive g block t n l m ≡ derive g block (drop n t) 0 l m
  unfolding derive
  derive_drop [] zero l m = refl
  derive_drop [] (suc n) l m = refl
  derive_drop (b ∷ t) zero l m = refl
  derive_drop (b ∷ t) (suc n) l m = derive_drop t n l m

  abbrev body : ℕ → Chain → List ℕ → Body
  body = body_of g block

  abbrev marks_ahead : ℕ → Chain → List ℕ → List Mark
  marks_ahead = marks_ahead_of g block

  -- what stands behind the body under way
  pub beyond : ℕ → Chain → Bool → List ℕ → List Mark
  beyond l [] closed t = []
  beyond l (h ∷ c) closed t = cond closed (closing (h ∷ c) c h.closer ++ marks_ahead l c t) []

  pub marks_ahead-is : (l : ℕ) (c : Chain) (t : List ℕ) → marks_ahead l c t ≡ marks c (body l c t).items ++ beyond l c (body l c t).closed (drop (body l c t).taken t)
  unfolding marks_ahead_of beyond
  marks_ahead-is l [] t = sym (append-nil _)
  marks_ahead-is l (h ∷ c) t = refl

  nothing_beyond : (l : ℕ) (c : Chain) (t : List ℕ) → beyond l c false t ≡ []
  unfolding beyond
  nothing_beyond l [] t = refl
  nothing_beyond l (h ∷ c) t = refl

  -- an item in front
  pub marks_ahead-item : (l : ℕ) (c : Chain) (t : List ℕ) (i : Item) (n : ℕ) → body l c t ≡ before i n (body l c (drop n t)) → marks_ahead l c t ≡ marks_of c i ++ marks_ahead l c (drop n t)
  unfolding marks
  marks_ahead-item l c t i n e =
      marks_ahead-is l c t
      ∙ ap (λ (d : Body). marks c d.items ++ beyond l c d.closed (drop d.taken t)) e
      ∙ append_assoc (marks_of c i) (marks c (body l c (drop n t)).items) (beyond l c (body l c (drop n t)).closed (drop (n + (body l c (drop n t)).taken) t))
      ∙ ap (λ w. marks_of c i ++ (marks c (body l c (drop n t)).items ++ beyond l c (body l c (drop n t)).closed w)) (sym (drop-drop (body l c (drop n t)).taken n t))
      ∙ ap (λ w. marks_of c i ++ w) (sym (marks_ahead-is l c (drop n t)))

  -- the bytes that are left are those without the first n
  pub derive_less : (b : ℕ) (t : List ℕ) (n k l : ℕ) (m : Mode) → 0 < n → derive g block t (n - 1 + k) l m ≡ derive g block (drop (n + k) (b ∷ t)) 0 l m
  derive_less b t zero k l m h = absurd (omega arith)
  derive_less b t (suc n) k l m h =
      let e : suc n - 1 + k ≡ n + k = omega arith in
      let f : suc n + k ≡ suc (n + k) = omega arith in
      rw (e, f) (derive_drop t (n + k) l m)

  pub derive_less_by : (b : ℕ) (t : List ℕ) (n l : ℕ) (m : Mode) → 0 < n → derive g block t (n - 1) l m ≡ derive g block (drop n (b ∷ t)) 0 l m
  derive_less_by b t n l m h =
      let e : n - 1 + 0 ≡ n - 1 = omega arith in
      let f : n + 0 ≡ n = omega arith in
      ap (λ x. derive g block t x l m) (sym e) ∙ derive_less b t n 0 l m h ∙ ap (λ x. derive g block (drop x (b ∷ t)) 0 l m) f

  module _ (l : ℕ) (c : Chain) (b : ℕ) (t : List ℕ) where
    abbrev pub chosen : Choice → Type 0
    chosen x = choice g (innermost c) (block l (b ∷ t)) (b ∷ t) ≡ x

    by_choice : (x : Choice) → chosen x → body l c (b ∷ t) ≡ follow x b t l (innermost c) (derive g block t)
    unfolding derive
    by_choice x e = ap (λ w. follow w b t l (innermost c) (derive g block t)) e

    pub marks_ahead-byte : chosen takes_byte → marks_ahead l c (b ∷ t) ≡ byte_at b true c ∷ marks_ahead l c t
    unfolding marks derive
    marks_ahead-byte e = marks_ahead-item l c (b ∷ t) (one b) 1 (byte_body e)
      where
        byte_body : chosen takes_byte → body l c (b ∷ t) ≡ before (one b) 1 (body l c t)
        byte_body e = by_choice takes_byte e

    pub marks_ahead-escape : chosen escapes → marks_ahead l c (b ∷ t) ≡ byte_at b true c ∷ byte_at (second t) false c ∷ marks_ahead l c (drop 1 t)
    unfolding marks derive
    marks_ahead-escape e = marks_ahead-item l c (b ∷ t) (escaped b (second t)) 2 (escape_body e)
      where
        escape_body : chosen escapes → body l c (b ∷ t) ≡ before (escaped b (second t)) 2 (body l c (drop 1 t))
        escape_body e = by_choice escapes e ∙ (ap (before (escaped b (second t)) 2) (derive_drop t 1 l (innermost c)))

    pub marks_ahead-pass : (p : Pair) → 0 < length p.opener → chosen (passes_over p) → marks_ahead l c (b ∷ t) ≡ of_choice c p.opener ++ marks_ahead l c (drop (length p.opener) (b ∷ t))
    unfolding marks derive
    marks_ahead-pass p h e = marks_ahead-item l c (b ∷ t) (passed_over p) (length p.opener) (pass_body p h e)
      where
        pass_body : (p : Pair) → 0 < length p.opener → chosen (passes_over p) → body l c (b ∷ t) ≡ before (passed_over p) (length p.opener) (body l c (drop (length p.opener) (b ∷ t)))
        pass_body p h e = by_choice (passes_over p) e ∙ (ap (before (passed_over p) (length p.opener)) (derive_less_by b t (length p.opener) l (innermost c) h))

    pub marks_ahead-rest : 0 < length (first_line (b ∷ t)) → chosen begins_line_comment
        → marks_ahead l c (b ∷ t)
        ≡ of_choice c (first_line (b ∷ t))
        ++ marks_ahead l c (drop (length (first_line (b ∷ t))) (b ∷ t))
    unfolding marks derive
    marks_ahead-rest h e = marks_ahead-item l c (b ∷ t) (line_comment (first_line (b ∷ t))) (length (first_line (b ∷ t))) (rest_body h e)
      where
        rest_body : 0 < length (first_line (b ∷ t)) → chosen begins_line_comment
            → body l c (b ∷ t)
            ≡ before (line_comment (first_line (b ∷ t))) (length (first_line (b ∷ t)))
            (body l c (drop (length (first_line (b ∷ t))) (b ∷ t)))
        rest_body h e =
            by_choice begins_line_comment e
            ∙ (ap (before (line_comment (first_line (b ∷ t))) (length (first_line (b ∷ t))))
            (derive_less_by b t (length (first_line (b ∷ t))) l (innermost c) h))

    opened_by_end : (k : ItemKind) (p : Pair) → 0 < length p.opener → (is : Items) (n : ℕ) (closed : Bool)
        → derive g block (drop (length p.opener) (b ∷ t)) 0 l (Some (enclosure k p)) ≡ record { items = is; taken = n; closed = closed }
        → body l c (b ∷ t) ≡ before (enclosing_item k p is closed) (length p.opener + n) (behind closed (derive g block t (length p.opener - 1 + n) l (innermost c)))
        → marks_ahead l c (b ∷ t) ≡ of_choice (enclosure k p ∷ c) p.opener ++ marks_ahead l (enclosure k p ∷ c) (drop (length p.opener) (b ∷ t))
    unfolding marks_ahead_of marks beyond
    opened_by_end k p h is n true d e =
        let behind_is : derive g block t (length p.opener - 1 + n) l (innermost c) ≡ body l c (drop (length p.opener + n) (b ∷ t)) = derive_less b t (length p.opener) n l (innermost c) h in
        let hs : Chain = enclosure k p ∷ c in
        marks_ahead-item l c (b ∷ t) (enclosing_item k p is true) (length p.opener + n) (e ∙ ap (before (enclosing_item k p is true) (length p.opener + n)) behind_is)
        ∙ ap (λ w. w ++ marks_ahead l c (drop (length p.opener + n) (b ∷ t))) (marks-enclosing_item c k p is true)
        ∙ append_assoc (of_choice hs p.opener) (marks hs is ++ closing hs c p.closer) (marks_ahead l c (drop (length p.opener + n) (b ∷ t)))
        ∙ ap (λ w. of_choice hs p.opener ++ w) (append_assoc (marks hs is) (closing hs c p.closer) (marks_ahead l c (drop (length p.opener + n) (b ∷ t)))
        ∙ ap (λ w. marks hs is ++ (closing hs c p.closer ++ marks_ahead l c w)) (sym (drop-drop n (length p.opener) (b ∷ t)))
        ∙ ap (λ (w : Body). marks hs w.items ++ cond w.closed (closing hs c p.closer ++ marks_ahead l c (drop w.taken (drop (length p.opener) (b ∷ t)))) []) (sym d))
    opened_by_end k p h is n false d e =
        let hs : Chain = enclosure k p ∷ c in
        marks_ahead-is l c (b ∷ t)
        ∙ ap (λ (w : Body). marks c w.items ++ beyond l c w.closed (drop w.taken (b ∷ t))) e
        ∙ ap (λ w. (marks_of c (enclosing_item k p is false) ++ []) ++ w) (nothing_beyond l c (drop (length p.opener + n + 0) (b ∷ t)))
        ∙ append-nil _ ∙ append-nil _
        ∙ marks-enclosing_item c k p is false
        ∙ ap (λ (w : Body). of_choice hs p.opener ++ (marks hs w.items ++ cond w.closed (closing hs c p.closer ++ marks_ahead l c (drop w.taken (drop (length p.opener) (b ∷ t)))) [])) (sym d)

    -- behind an opener the item that it opens holds the place
    pub marks_ahead-opener : (k : ItemKind) (p : Pair) → 0 < length p.opener → chosen (opens k p)
        → marks_ahead l c (b ∷ t)
        ≡ of_choice (enclosure k p ∷ c) p.opener
        ++ marks_ahead l (enclosure k p ∷ c) (drop (length p.opener) (b ∷ t))
    marks_ahead-opener k p h e =
        let inner : Body = derive g block t (length p.opener - 1) l (Some (enclosure k p)) in
        opened_by_end k p h inner.items inner.taken inner.closed (sym (derive_less_by b t (length p.opener) l (Some (enclosure k p)) h)) (by_choice (opens k p) e)

  -- behind a closer the items around hold the place
  pub marks_ahead-closer : (l : ℕ) (h : Enclosure) (c : Chain) (b : ℕ) (t : List ℕ)
      → chosen l (h ∷ c) b t closes
      → marks_ahead l (h ∷ c) (b ∷ t)
      ≡ closing (h ∷ c) c h.closer ++ marks_ahead l c (drop (length h.closer) (b ∷ t))
  unfolding marks_ahead_of marks
  marks_ahead-closer l h c b t e =
      ap (λ (w : Body). marks (h ∷ c) w.items ++ cond w.closed (closing (h ∷ c) c h.closer ++ marks_ahead l c (drop w.taken (b ∷ t))) []) (by_choice l (h ∷ c) b t closes e)

  pub marks_ahead-child : (l : ℕ) (b : ℕ) (t : List ℕ) (k : Block) → 0 < k.size
      → chosen l [] b t (child_opens k)
      → marks_ahead l [] (b ∷ t)
      ≡ child_at k ∷ marks_ahead (length (b ∷ t) - k.size) [] (drop k.size (b ∷ t))
  unfolding marks_ahead_of marks
  marks_ahead-child l b t k h e =
      ap (λ (w : Body). marks [] w.items) (by_choice l [] b t (child_opens k) e ∙ ap (before (child k (take k.size (b ∷ t))) k.size) (derive_less_by b t k.size (length (b ∷ t) - k.size) None h))

  -- behind the text nothing stands
  pub marks_ahead-end : (l : ℕ) (c : Chain) → marks_ahead l c [] ≡ []
  unfolding marks_ahead_of marks derive
  marks_ahead-end l [] = refl
  marks_ahead-end l (h ∷ c) = refl
