-- The items of a text spell it.
use Rattle.std.proofs.Common.{◌≡◌, ℕ, suc, zero, ◌+◌, ◌-◌, ◌<◌, ◌≤◌, ◌==◌, Bool, true, false, cond, List, [], ◌∷◌, ◌++◌, length, take, drop, Option, None, Some, refl, sym, ◌∙◌, ap, append_assoc, arith}
use Rattle.std.proofs.lemmas.List.{append-nil, drop-drop, take-append-drop}
use Rattle.tokei_table.specs.Row.{Pair, Row}
use Rattle.tokei_table.specs.Sound.{IsSound}
use Rattle.tokei_embedding.specs.DocComments.{first_line}
use Rattle.tokei_table_row.specs.Bytes.{line_len}
use Rattle.tokei_parts.specs.Items.{Block, Item, Items, Mode, enclosing_item, enclosure}
use Rattle.tokei_parts.specs.Items.Item.{one, escaped, passed_over, line_comment, child}
use Rattle.tokei_parts.specs.Choice.{Choice, choice}
use Rattle.tokei_parts.specs.Choice.Choice.{closes, escapes, child_opens, opens, passes_over, begins_line_comment, takes_byte}
use Rattle.tokei_parts.specs.Derivation.{Body, ended, before, behind, closer_of, second, follow, derive, items_of}
use Rattle.tokei_count.specs.Spelling.{spelled, spelled_by, TakesBytes}
use Rattle.tokei_parts.specs.declared.items.ItemKind.{ItemKind}
use Rattle.tokei_parts.specs.declared.items.ItemKind.TheVariants.{DocString, VerbatimString, OrdinaryString, MultiLineComment}
use Rattle.tokei_parts.proofs.Fits.{IsLocal, FitsIn, IsClosed, choice_fits}
use Rattle.tokei_parts.proofs.Lines.{take-first, first_some}

-- the body's items, its closer and what is left behind it are the text u
abbrev Spells : List ℕ → List ℕ → Body → Type 0
Spells closer u b = spelled b.items ++ cond b.closed (closer ++ drop b.taken u) [] ≡ u

-- what stands at the front, and what is left
local_seam : (p u : List ℕ) → IsLocal p u → p ++ drop (length p) u ≡ u
local_seam p u h = ap (λ w. w ++ drop (length p) u) h.reads ∙ take-append-drop (length p) u

drop-less : (n b : ℕ) (t : List ℕ) → 0 < n → drop (n - 1) t ≡ drop n (b ∷ t)
drop-less zero b t h = absurd (omega arith)
drop-less (suc n) b t h = let e : suc n - 1 ≡ n = omega arith in ap (λ k. drop k t) e

-- an item of n bytes in front of a body
spells_item : (closer : List ℕ) (i : Item) (n b : ℕ) (t : List ℕ) (o : Body) → 0 < n → spelled_by i ++ drop n (b ∷ t) ≡ b ∷ t → Spells closer (drop (n - 1) t) o → Spells closer (b ∷ t) (before i n o)
unfolding spelled
spells_item closer i n b t o some h k =
    let left : Spells closer (drop n (b ∷ t)) o = rw (drop-less n b t some) at k in
    append_assoc (spelled_by i) (spelled o.items) (cond o.closed (closer ++ drop (n + o.taken) (b ∷ t)) [])
    ∙ ap (λ w. spelled_by i ++ (spelled o.items ++ cond o.closed (closer ++ w) [])) (sym (drop-drop o.taken n (b ∷ t)))
    ∙ ap (λ w. spelled_by i ++ w) left
    ∙ h

spelled_by-enclosing_item : (k : ItemKind) (p : Pair) (is : Items) (closed : Bool) → spelled_by (enclosing_item k p is closed) ≡ p.opener ++ (spelled is ++ cond closed p.closer [])
unfolding spelled
spelled_by-enclosing_item DocString p is closed = refl
spelled_by-enclosing_item VerbatimString p is closed = refl
spelled_by-enclosing_item OrdinaryString p is closed = refl
spelled_by-enclosing_item MultiLineComment p is closed = refl

-- an opener, the body that it opens, and where that is closed what is left behind it
module _ (closer : List ℕ) (k : ItemKind) (p : Pair) (b : ℕ) (t : List ℕ) where
  spells_closed : (is : Items) (n : ℕ) (o : Body) → IsLocal p.opener (b ∷ t) → Spells p.closer (drop (length p.opener - 1) t) (record { items = is; taken = n; closed = true })
      → Spells closer (drop (length p.opener - 1 + n) t) o → Spells closer (b ∷ t) (before (enclosing_item k p is true) (length p.opener + n) o)
  spells_closed is n o h inner rest =
      let u : List ℕ = b ∷ t in
      let l : ℕ = length p.opener in
      let same : l + n - 1 ≡ l - 1 + n = omega (arith, h.some) in
      let body : spelled is ++ (p.closer ++ drop n (drop l u)) ≡ drop l u = rw (drop-less l b t h.some) at inner in
      spells_item closer (enclosing_item k p is true) (l + n) b t o (omega (arith, h.some))
      (ap (λ w. w ++ drop (l + n) u) (spelled_by-enclosing_item k p is true)
      ∙ append_assoc p.opener (spelled is ++ p.closer) (drop (l + n) u)
      ∙ ap (λ w. p.opener ++ w) (append_assoc (spelled is) p.closer (drop (l + n) u) ∙ ap (λ w. spelled is ++ (p.closer ++ w)) (sym (drop-drop n l u)) ∙ body)
      ∙ local_seam p.opener u h)
      (rw same rest)

  spells_open : (is : Items) (n : ℕ) → IsLocal p.opener (b ∷ t) → Spells p.closer (drop (length p.opener - 1) t) (record { items = is; taken = n; closed = false })
      → Spells closer (b ∷ t) (before (enclosing_item k p is false) (length p.opener + n) ended)
  unfolding spelled
  spells_open is n h inner =
      let u : List ℕ = b ∷ t in
      let l : ℕ = length p.opener in
      let body : spelled is ++ [] ≡ drop l u = rw (drop-less l b t h.some) at inner in
      append-nil _ ∙ append-nil _
      ∙ spelled_by-enclosing_item k p is false
      ∙ ap (λ w. p.opener ++ w) body
      ∙ local_seam p.opener u h

  spells_opener : (inner : Body) (go : ℕ → Body) → IsLocal p.opener (b ∷ t) → Spells p.closer (drop (length p.opener - 1) t) inner → ((n : ℕ) → Spells closer (drop n t) (go n))
      → Spells closer (b ∷ t) (before (enclosing_item k p inner.items inner.closed) (length p.opener + inner.taken) (behind inner.closed (go (length p.opener - 1 + inner.taken))))
  spells_opener inner go h body rest = by_end inner.items inner.taken inner.closed body
    where
      by_end : (is : Items) (n : ℕ) (closed : Bool) → Spells p.closer (drop (length p.opener - 1) t) (record { items = is; taken = n; closed = closed })
          → Spells closer (b ∷ t) (before (enclosing_item k p is closed) (length p.opener + n) (behind closed (go (length p.opener - 1 + n))))
      by_end is n true e = spells_closed is n (go (length p.opener - 1 + n)) h e (rest (length p.opener - 1 + n))
      by_end is n false e = spells_open is n h e

module _ (g : Row) (block : ℕ → List ℕ → Option Block) (s : IsSound g) (sizes : TakesBytes block) where
  spells_choice : (x : Choice) (b : ℕ) (t : List ℕ) (l : ℕ) (m : Mode) (go : ℕ → ℕ → Mode → Body) → FitsIn (block l (b ∷ t)) m (b ∷ t) x
      → IsClosed m → ((n l : ℕ) (m : Mode) → IsClosed m → Spells (closer_of m) (drop n t) (go n l m)) → Spells (closer_of m) (b ∷ t) (follow x b t l m go)
  unfolding spelled
  spells_choice closes b t l m go h c ih = local_seam (closer_of m) (b ∷ t) h
  spells_choice escapes b t l m go h c ih = spells_item (closer_of m) (escaped b (second t)) 2 b t (go 1 l m) (omega arith) (two_bytes t h) (ih 1 l m c)
    where
      short : (x : Bool) → 2 ≤ cond x 0 1 → ⊥
      short true h = omega arith
      short false h = omega arith

      two_bytes : (v : List ℕ) → 2 ≤ line_len (b ∷ v) → b ∷ second v ∷ drop 2 (b ∷ v) ≡ b ∷ v
      two_bytes [] h = absurd (short (b == 10) h)
      two_bytes (b' ∷ v) h = refl
  spells_choice (child_opens k) b t l m go h c ih =
      spells_item (closer_of m) (child k (take k.size (b ∷ t))) k.size b t
      (go (k.size - 1) (length (b ∷ t) - k.size) m) (sizes.some l (b ∷ t) k h)
      (take-append-drop k.size (b ∷ t)) (ih (k.size - 1) (length (b ∷ t) - k.size) m c)
  spells_choice (opens k p) b t l m go h c ih =
      spells_opener (closer_of m) k p b t (go (length p.opener - 1) l (Some (enclosure k p))) (λ n. go n l m) h.0 (ih (length p.opener - 1) l (Some (enclosure k p)) h.1) (λ n. ih n l m c)
  spells_choice (passes_over p) b t l m go h c ih =
      spells_item (closer_of m) (passed_over p) (length p.opener) b t (go (length p.opener - 1) l m) h.some (local_seam p.opener (b ∷ t) h) (ih (length p.opener - 1) l m c)
  spells_choice begins_line_comment b t l m go h c ih =
      let n : ℕ = length (first_line (b ∷ t)) in
      spells_item (closer_of m) (line_comment (first_line (b ∷ t))) n b t (go (n - 1) l m) (first_some b t)
      (ap (λ w. w ++ drop n (b ∷ t)) (sym (take-first (b ∷ t))) ∙ take-append-drop n (b ∷ t)) (ih (n - 1) l m c)
  spells_choice takes_byte b t l m go h c ih = spells_item (closer_of m) (one b) 1 b t (go 0 l m) (omega arith) refl (ih 0 l m c)

  spells_body : (t : List ℕ) (n l : ℕ) (m : Mode) → IsClosed m → Spells (closer_of m) (drop n t) (derive g block t n l m)
  unfolding derive spelled
  spells_body [] zero l m c = refl
  spells_body [] (suc n) l m c = refl
  spells_body (b ∷ t) (suc n) l m c = spells_body t n l m c
  spells_body (b ∷ t) zero l m c = spells_choice (choice g m (block l (b ∷ t)) (b ∷ t)) b t l m (derive g block t) (choice_fits g (block l (b ∷ t)) m (b ∷ t) s c) c (spells_body t)

  -- plain text has no closer
  stays_open : (x : Choice) (b : ℕ) (t : List ℕ) (l : ℕ) (go : ℕ → ℕ → Mode → Body) → FitsIn (block l (b ∷ t)) None (b ∷ t) x
      → ((n l : ℕ) → (go n l None).closed ≡ false) → (follow x b t l None go).closed ≡ false
  stays_open closes b t l go h ih = absurd (omega (arith, h.some))
  stays_open escapes b t l go h ih = ih 1 l
  stays_open (child_opens k) b t l go h ih = ih (k.size - 1) (length (b ∷ t) - k.size)
  stays_open (opens k p) b t l go h ih =
      let inner : Body = go (length p.opener - 1) l (Some (enclosure k p)) in
      behind_open inner.closed (go (length p.opener - 1 + inner.taken) l None) (ih (length p.opener - 1 + inner.taken) l)
    where
      behind_open : (x : Bool) (o : Body) → o.closed ≡ false → (behind x o).closed ≡ false
      behind_open true o h = h
      behind_open false o h = refl
  stays_open (passes_over p) b t l go h ih = ih (length p.opener - 1) l
  stays_open begins_line_comment b t l go h ih = ih (length (first_line (b ∷ t)) - 1) l
  stays_open takes_byte b t l go h ih = ih 0 l

  plain_open : (t : List ℕ) (n l : ℕ) → (derive g block t n l None).closed ≡ false
  unfolding derive
  plain_open [] n l = refl
  plain_open (b ∷ t) (suc n) l = plain_open t n l
  plain_open (b ∷ t) zero l = stays_open (choice g None (block l (b ∷ t)) (b ∷ t)) b t l (derive g block t) (choice_fits g (block l (b ∷ t)) None (b ∷ t) s tt) (plain_open t)

  pub spelled-items_of : (t : List ℕ) → spelled (items_of g block t) ≡ t
  spelled-items_of t =
      let o : Body = derive g block t 0 (length t) None in
      let whole : spelled o.items ++ cond o.closed ([] ++ drop o.taken t) [] ≡ t = spells_body t 0 (length t) None tt in
      sym (append-nil (spelled o.items))
      ∙ ap (λ x. spelled o.items ++ cond x ([] ++ drop o.taken t) []) (sym (plain_open t 0 (length t)))
      ∙ whole
