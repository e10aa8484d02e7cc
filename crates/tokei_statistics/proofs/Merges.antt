-- Merging maps is associative, wherever joining their values is.
use Rattle.std.proofs.Common.{◌≡◌, ℕ, ◌<◌, List, [], ◌∷◌, refl, sym, ◌∙◌, ap, subst, arith}
use Rattle.std.specs.Bool.{⊤}
use Rattle.std.specs.Ordering.{nat_cmp, match_ordering, MatchOrdering}
use Rattle.std.specs.Cmp.{nat_cmp_is}
use Rattle.std.proofs.lemmas.Cmp.{ranked}
use Rattle.std.specs.declared.cmp.Ordering.{Ordering}
use Rattle.std.specs.declared.cmp.Ordering.TheVariants.{Less, Equal, Greater}
use Rattle.tokei_languages.specs.Maps.{put_at, merged}

-- the first key stands behind k
abbrev pub IsBefore : {S : Type 0} → ℕ → List (ℕ × S) → Type 0
IsBefore k [] = ⊤
IsBefore k (e ∷ es) = k < e.0

-- the keys ascend
abbrev pub Ascends : {S : Type 0} → List (ℕ × S) → Type 0
Ascends [] = ⊤
Ascends (e ∷ es) = IsBefore e.0 es × Ascends es

module _ {S : Type 0} where
  pub put_less : (f : S → S) (s : S) (e : ℕ × S) (es : List (ℕ × S)) (k : ℕ) → k < e.0 → put_at f s (e ∷ es) k ≡ (k, s) ∷ e ∷ es
  put_less f s e es k h = ap (λ o. match_ordering o ((k, s) ∷ e ∷ es) ((e.0, f e.1) ∷ es) (e ∷ put_at f s es k)) (sym (nat_cmp_is k e.0 Less h))

  pub put_same : (f : S → S) (s : S) (e : ℕ × S) (es : List (ℕ × S)) (k : ℕ) → k ≡ e.0 → put_at f s (e ∷ es) k ≡ (e.0, f e.1) ∷ es
  put_same f s e es k h = ap (λ o. match_ordering o ((k, s) ∷ e ∷ es) ((e.0, f e.1) ∷ es) (e ∷ put_at f s es k)) (sym (nat_cmp_is k e.0 Equal h))

  pub put_more : (f : S → S) (s : S) (e : ℕ × S) (es : List (ℕ × S)) (k : ℕ) → e.0 < k → put_at f s (e ∷ es) k ≡ e ∷ put_at f s es k
  put_more f s e es k h = ap (λ o. match_ordering o ((k, s) ∷ e ∷ es) ((e.0, f e.1) ∷ es) (e ∷ put_at f s es k)) (sym (nat_cmp_is k e.0 Greater h))

  put_first : (f : S → S) (s : S) (es : List (ℕ × S)) (k : ℕ) → IsBefore k es → put_at f s es k ≡ (k, s) ∷ es
  put_first f s [] k h = refl
  put_first f s (e ∷ es) k h = put_less f s e es k h

  before_by : (o : Ordering) (f : S → S) (s : S) (e : ℕ × S) (es : List (ℕ × S)) (j k : ℕ) → MatchOrdering o (k < e.0) (k ≡ e.0) (e.0 < k) → j < k → j < e.0 → IsBefore j (put_at f s (e ∷ es) k)
  before_by Less f s e es j k h below first = subst (IsBefore j) (sym (put_less f s e es k h)) below
  before_by Equal f s e es j k h below first = subst (IsBefore j) (sym (put_same f s e es k h)) first
  before_by Greater f s e es j k h below first = subst (IsBefore j) (sym (put_more f s e es k h)) first

  before_put : (f : S → S) (s : S) (es : List (ℕ × S)) (j k : ℕ) → j < k → IsBefore j es → IsBefore j (put_at f s es k)
  before_put f s [] j k below first = below
  before_put f s (e ∷ es) j k below first = before_by (nat_cmp k e.0) f s e es j k (ranked k e.0 _ refl) below first

  ascends_by : (o : Ordering) (f : S → S) (s : S) (e : ℕ × S) (es : List (ℕ × S)) (k : ℕ)
      → MatchOrdering o (k < e.0) (k ≡ e.0) (e.0 < k) → IsBefore e.0 es → Ascends es
      → Ascends (put_at f s es k) → Ascends (put_at f s (e ∷ es) k)
  ascends_by Less f s e es k h first rest more = subst Ascends (sym (put_less f s e es k h)) (h, (first, rest))
  ascends_by Equal f s e es k h first rest more = subst Ascends (sym (put_same f s e es k h)) (first, rest)
  ascends_by Greater f s e es k h first rest more = subst Ascends (sym (put_more f s e es k h)) (before_put f s es e.0 k h first, more)

  pub before_less : (es : List (ℕ × S)) (j k : ℕ) → j < k → IsBefore k es → IsBefore j es
  before_less [] j k below h = tt
  before_less (e ∷ es) j k below h = omega arith

  -- putting keeps the order
  pub ascends_put : (f : S → S) (s : S) (es : List (ℕ × S)) (k : ℕ) → Ascends es → Ascends (put_at f s es k)
  ascends_put f s [] k a = (tt, tt)
  ascends_put f s (e ∷ es) k a = ascends_by (nat_cmp k e.0) f s e es k (ranked k e.0 _ refl) a.0 a.1 (ascends_put f s es k a.1)

  commute_by : (o : Ordering) (f g : S → S) (s r : S) (e : ℕ × S) (es : List (ℕ × S)) (j k : ℕ) → MatchOrdering o (j < e.0) (j ≡ e.0) (e.0 < j) → j < k
      → put_at f s (put_at g r es k) j ≡ put_at g r (put_at f s es j) k
      → put_at f s (put_at g r (e ∷ es) k) j ≡ put_at g r (put_at f s (e ∷ es) j) k
  commute_by Less f g s r e es j k h below ih =
      put_first f s (put_at g r (e ∷ es) k) j (before_put g r (e ∷ es) j k below h)
      ∙ sym (put_more g r (j, s) (e ∷ es) k below)
      ∙ ap (λ q. put_at g r q k) (sym (put_less f s e es j h))
  commute_by Equal f g s r e es j k h below ih =
      let above : e.0 < k = omega arith in
      ap (λ q. put_at f s q j) (put_more g r e es k above)
      ∙ put_same f s e (put_at g r es k) j h
      ∙ sym (put_more g r (e.0, f e.1) es k above)
      ∙ ap (λ q. put_at g r q k) (sym (put_same f s e es j h))
  commute_by Greater f g s r e es j k h below ih =
      let above : e.0 < k = omega arith in
      ap (λ q. put_at f s q j) (put_more g r e es k above)
      ∙ put_more f s e (put_at g r es k) j h
      ∙ ap (λ q. e ∷ q) ih
      ∙ sym (put_more g r e (put_at f s es j) k above)
      ∙ ap (λ q. put_at g r q k) (sym (put_more f s e es j h))

  -- two keys may be put in any order
  commute : (f g : S → S) (s r : S) (es : List (ℕ × S)) (j k : ℕ) → j < k → put_at f s (put_at g r es k) j ≡ put_at g r (put_at f s es j) k
  commute f g s r [] j k below = put_less f s (k, r) [] j below ∙ sym (put_more g r (j, s) [] k below)
  commute f g s r (e ∷ es) j k below = commute_by (nat_cmp j e.0) f g s r e es j k (ranked j e.0 _ refl) below (commute f g s r es j k below)

  twice_by : (o : Ordering) (f g : S → S) (s r : S) (e : ℕ × S) (es : List (ℕ × S)) (k : ℕ) → MatchOrdering o (k < e.0) (k ≡ e.0) (e.0 < k)
      → put_at g r (put_at f s es k) k ≡ put_at (λ x. g (f x)) (g s) es k
      → put_at g r (put_at f s (e ∷ es) k) k ≡ put_at (λ x. g (f x)) (g s) (e ∷ es) k
  twice_by Less f g s r e es k h ih =
      ap (λ q. put_at g r q k) (put_less f s e es k h)
      ∙ put_same g r (k, s) (e ∷ es) k refl
      ∙ sym (put_less (λ x. g (f x)) (g s) e es k h)
  twice_by Equal f g s r e es k h ih =
      ap (λ q. put_at g r q k) (put_same f s e es k h)
      ∙ put_same g r (e.0, f e.1) es k h
      ∙ sym (put_same (λ x. g (f x)) (g s) e es k h)
  twice_by Greater f g s r e es k h ih =
      ap (λ q. put_at g r q k) (put_more f s e es k h)
      ∙ put_more g r e (put_at f s es k) k h
      ∙ ap (λ q. e ∷ q) ih
      ∙ sym (put_more (λ x. g (f x)) (g s) e es k h)

  -- putting at one key twice
  twice : (f g : S → S) (s r : S) (es : List (ℕ × S)) (k : ℕ) → put_at g r (put_at f s es k) k ≡ put_at (λ x. g (f x)) (g s) es k
  twice f g s r [] k = put_same g r (k, s) [] k refl
  twice f g s r (e ∷ es) k = twice_by (nat_cmp k e.0) f g s r e es k (ranked k e.0 _ refl) (twice f g s r es k)

  pub same_put : (f g : S → S) (s : S) (es : List (ℕ × S)) (k : ℕ) → ((x : S) → f x ≡ g x) → put_at f s es k ≡ put_at g s es k
  same_put f g s es k h = ap (λ (u : S → S). put_at u s es k) (λ i. λ x. h x i)

-- every value of the entries meets P
abbrev pub AllMeet : {S : Type 0} → (S → Type 0) → List (ℕ × S) → Type 0
AllMeet P [] = ⊤
AllMeet P (e ∷ es) = P e.1 × AllMeet P es

-- joining values that meet P is associative, and gives such a value
pub record Associates {S : Type 0} (join : S → S → S) (P : S → Type 0) : Type 0 where
  pub closed : (s t : S) → P s → P t → P (join s t)
  pub same : (s t u : S) → P t → P u → join (join s t) u ≡ join s (join t u)

module _ {S : Type 0} (join : S → S → S) (P : S → Type 0) (laws : Associates join P) where
  -- the entries with s joined to what the key has
  abbrev pub put : S → List (ℕ × S) → ℕ → List (ℕ × S)
  put s es k = put_at (λ x. join x s) s es k

  meet_by : (o : Ordering) (s : S) (e : ℕ × S) (es : List (ℕ × S)) (k : ℕ)
      → MatchOrdering o (k < e.0) (k ≡ e.0) (e.0 < k) → P s → P e.1 → AllMeet P es
      → AllMeet P (put s es k) → AllMeet P (put s (e ∷ es) k)
  meet_by Less s e es k h p q r more = subst (AllMeet P) (sym (put_less (λ x. join x s) s e es k h)) (p, (q, r))
  meet_by Equal s e es k h p q r more = subst (AllMeet P) (sym (put_same (λ x. join x s) s e es k h)) (laws.closed e.1 s q p, r)
  meet_by Greater s e es k h p q r more = subst (AllMeet P) (sym (put_more (λ x. join x s) s e es k h)) (q, more)

  pub meet_put : (s : S) (es : List (ℕ × S)) (k : ℕ) → P s → AllMeet P es → AllMeet P (put s es k)
  meet_put s [] k p q = (p, tt)
  meet_put s (e ∷ es) k p q = meet_by (nat_cmp k e.0) s e es k (ranked k e.0 _ refl) p q.0 q.1 (meet_put s es k p q.1)

  seam_by : (o : Ordering) (s : S) (a : List (ℕ × S)) (e : ℕ × S) (es : List (ℕ × S)) (k : ℕ) → MatchOrdering o (k < e.0) (k ≡ e.0) (e.0 < k) → IsBefore e.0 es → P e.1 → P s
      → ((b : List (ℕ × S)) → put s (merged join b es) k ≡ merged join b (put s es k))
      → put s (merged join a (e ∷ es)) k ≡ merged join a (put s (e ∷ es) k)
  seam_by Less s a e es k h first q p ih =
      ih (put e.1 a e.0)
      ∙ ap (merged join (put e.1 a e.0)) (put_first (λ x. join x s) s es k (before_less es k e.0 h first))
      ∙ ap (λ b. merged join b es) (commute (λ x. join x s) (λ x. join x e.1) s e.1 a k e.0 h)
      ∙ ap (merged join a) (sym (put_less (λ x. join x s) s e es k h))
  seam_by Equal s a e es k h first q p ih =
      ih (put e.1 a e.0)
      ∙ ap (merged join (put e.1 a e.0)) (put_first (λ x. join x s) s es k (subst (λ j. IsBefore j es) (sym h) first))
      ∙ ap (λ j. merged join (put s (put e.1 a e.0) j) es) h
      ∙ ap (λ b. merged join b es) (twice (λ x. join x e.1) (λ x. join x s) e.1 s a e.0
      ∙ same_put (λ x. join (join x e.1) s) (λ x. join x (join e.1 s)) (join e.1 s) a e.0
      (λ x. laws.same x e.1 s q p))
      ∙ ap (merged join a) (sym (put_same (λ x. join x s) s e es k h))
  seam_by Greater s a e es k h first q p ih =
      ih (put e.1 a e.0) ∙ ap (merged join a) (sym (put_more (λ x. join x s) s e es k h))

  -- what is put into a merge might have been put into its right side
  pub seam : (s : S) (a b : List (ℕ × S)) (k : ℕ) → Ascends b → AllMeet P b → P s → put s (merged join a b) k ≡ merged join a (put s b k)
  seam s a [] k up q p = refl
  seam s a (e ∷ es) k up q p =
      seam_by (nat_cmp k e.0) s a e es k (ranked k e.0 _ refl) up.0 q.0 p (λ b. seam s b es k up.1 q.1 p)

  -- merging three maps, of which the middle one ascends
  pub merged_assoc : (a b c : List (ℕ × S)) → Ascends b → AllMeet P b → AllMeet P c → merged join (merged join a b) c ≡ merged join a (merged join b c)
  merged_assoc a b [] up q r = refl
  merged_assoc a b (e ∷ es) up q r =
      ap (λ d. merged join d es) (seam e.1 a b e.0 up q r.0)
      ∙ merged_assoc a (put e.1 b e.0) es (ascends_put (λ x. join x e.1) e.1 b e.0 up) (meet_put e.1 b e.0 r.0 q) r.1

  -- the keys of a merge ascend where those of the left side do
  pub ascends_merged : (a b : List (ℕ × S)) → Ascends a → Ascends (merged join a b)
  ascends_merged a [] up = up
  ascends_merged a (e ∷ es) up = ascends_merged (put e.1 a e.0) es (ascends_put (λ x. join x e.1) e.1 a e.0 up)

  pub meet_merged : (a b : List (ℕ × S)) → AllMeet P a → AllMeet P b → AllMeet P (merged join a b)
  meet_merged a [] p q = p
  meet_merged a (e ∷ es) p q = meet_merged (put e.1 a e.0) es (meet_put e.1 a e.0 q.0 p) q.1
