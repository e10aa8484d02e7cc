-- How far the blocks reach, and that none opens at a newline.
use Rattle.std.proofs.Common.{◌≡◌, ℕ, suc, ◌+◌, ◌-◌, ◌<◌, ◌≤◌, Bool, true, false, ◌&&◌, nat_lt, cond, List, [], ◌∷◌, ◌++◌, length, take, drop, Option, None, Some, option_map, codes, refl, ap, subst, arith, length-drop, length-take, length-append}
use Rattle.std.proofs.lemmas.Map.Views.{exact_unsigned_eq}
use Rattle.tokei_table_row.proofs.Finds.{begins-occurs}
use Rattle.tokei_table_row.specs.Bytes.{is_blank, all_blank, begins}
use Rattle.tokei_embedding.specs.BlockLaws.{Reaches}
use Rattle.tokei_embedding.specs.Fences.{Fence, fence, opens_fence, begins_info, info_len, first_fence, closing_len, fence_to, fence_from, fence_block}
use Rattle.tokei_embedding.specs.Searches.{first_where, first_of, last_of, is_at}
use Rattle.tokei_embedding.specs.Spans.{Span, shifted, bytes_of}
use Rattle.tokei_embedding.specs.Tags.{TagBlock, Opening, token_of, closer_of, attribute_of, value_in, value_end, opening_at, opening_before, element_of, element_to, tag_block}
use Rattle.tokei_embedding.specs.TargetBlocks.{TargetBlock, target_block, target_from, target_contents}
use Rattle.tokei_embedding.specs.declared.tags.Tag.{Tag}
use Rattle.tokei_embedding.specs.declared.tags.Tag.TheVariants.{Script, Style, Template}

-- what was found stands in the text and passes the test
Holds : (List ℕ → Bool) → List ℕ → Option ℕ → Type 0
Holds test t None = Unit {0}
Holds test t (Some k) = (k < length t) × (test (drop k t) ≡ true)

holds_later : (test : List ℕ → Bool) (b : ℕ) (t : List ℕ) (o : Option ℕ) → Holds test t o → Holds test (b ∷ t) (option_map suc o)
unfolding Holds
holds_later test b t None h = tt
holds_later test b t (Some k) h = (omega (arith, h.0), h.1)

holds_step : (test : List ℕ → Bool) (b : ℕ) (t : List ℕ) (x : Bool) → test (b ∷ t) ≡ x → Holds test t (first_where test t) → Holds test (b ∷ t) (cond x (Some 0) (option_map suc (first_where test t)))
unfolding Holds
holds_step test b t true e h = (omega arith, e)
holds_step test b t false e h = holds_later test b t (first_where test t) h

first_holds : (test : List ℕ → Bool) (t : List ℕ) → Holds test t (first_where test t)
unfolding Holds
first_holds test [] = tt
first_holds test (b ∷ t) = holds_step test b t (test (b ∷ t)) refl (first_holds test t)

pub begins-fits : (token t : List ℕ) → begins token t ≡ true → length token ≤ length t
begins-fits token t h = omega (arith, (begins-occurs token t h).fits)

-- the end of a token that was found
found_fits : (token t : List ℕ) (k : ℕ) → Holds (begins token) t (Some k) → k + length token ≤ length t
unfolding Holds
found_fits token t k h = omega (arith, h.0, begins-fits token (drop k t) h.1, length-drop k t)

at_is : (test : List ℕ → Bool) (t : List ℕ) (k : ℕ) (o : Option ℕ) → Holds test t o → is_at k o ≡ true → (k < length t) × (test (drop k t) ≡ true)
unfolding Holds
at_is test t k None h e = absurd (cc)
at_is test t k (Some i) h e =
    let same : i ≡ k = exact_unsigned_eq i k e in
    subst (λ j. (j < length t) × (test (drop j t) ≡ true)) same h

-- a block under a test, and the test
chosen : {B : Type 0} (x : Bool) (o : Option B) (b : B) → cond x o None ≡ Some b → (x ≡ true) × (o ≡ Some b)
chosen true o b h = (refl, h)
chosen false o b h = absurd (cc)

and_left : (x y : Bool) → (x && y) ≡ true → x ≡ true
and_left true y h = refl
and_left false y h = h

and_right : (x y : Bool) → (x && y) ≡ true → y ≡ true
and_right true y h = h
and_right false y h = absurd (cc)

closing_fits : (t : List ℕ) → closing_len t ≤ 3 + length t
closing_fits [] = omega arith
closing_fits (b ∷ t) = by (is_blank b)
  where
    by : (x : Bool) → cond x 4 3 ≤ 3 + suc (length t)
    by true = omega arith
    by false = omega arith

fence_reaches : (info : List ℕ) (n : ℕ) (rest : List ℕ) (o : Option ℕ) → 2 ≤ n → n ≤ length rest
    → Holds (begins fence) (drop n rest) o
    → Reaches (fence_to info n rest (drop n rest) o).size
    (fence_to info n rest (drop n rest) o).contents rest
unfolding Holds
fence_reaches info n rest None l m h = record { some = omega arith; within = omega arith; holds = omega (arith, length-drop n rest) }
fence_reaches info n rest (Some i) l m h =
    let behind = drop n rest in
    let fits : i + 3 ≤ length behind = found_fits fence behind i h in
    record {
      some = omega arith;
      within = omega (arith, fits, length-drop n rest, closing_fits (drop (i + 3) behind), length-drop (i + 3) behind);
      holds = omega (arith, length-take i behind);
    }

pub opening_fits : (here : List ℕ) → opens_fence here ≡ true → info_len here + 4 ≤ length here
opening_fits here h =
    let fits : 3 ≤ length here = begins-fits fence here (and_left (begins fence here) (begins_info (drop 3 here)) h) in
    let info : begins_info (drop 3 here) ≡ true = and_right (begins fence here) (begins_info (drop 3 here)) h in
    let below : nat_lt (info_len here) (length (drop 3 here)) ≡ true = and_right (nat_lt 0 (info_len here)) (nat_lt (info_len here) (length (drop 3 here))) info in
    omega (arith, length-drop 3 here, below_is (info_len here) (length (drop 3 here)) below)
  where
    below_is : (a b : ℕ) → nat_lt a b ≡ true → a < b
    below_is a b e = grind arith

-- `rest` goes on where the part does
pub fence_reach : (part rest tail : List ℕ) (k : ℕ) (f : Fence) → rest ≡ drop k part ++ tail → fence_block part k rest ≡ Some f → Reaches f.size f.contents rest
fence_reach part rest tail k f e h =
    let here = drop k part in
    let c = chosen (is_at k (first_fence part)) (Some (fence_from (info_len here) rest)) f h in
    let stands = at_is opens_fence part k (first_fence part) (first_holds opens_fence part) c.0 in
    let long : info_len here + 4 ≤ length rest = omega (arith, opening_fits here stands.1, ap length e, length-append here tail) in
    subst (λ o. Within o rest) c.1
    (fence_reaches (take (info_len here) (drop 3 rest)) (info_len here + 4) rest
    (first_of fence (drop (info_len here + 4) rest)) (omega arith) long
    (first_holds (begins fence) (drop (info_len here + 4) rest)))
  where
    Within : Option Fence → List ℕ → Type 0
    Within None rest = Unit {0}
    Within (Some f) rest = Reaches f.size f.contents rest

element_reaches : (value : Option (List ℕ)) (n : ℕ) (rest : List ℕ) (o : Option ℕ) (closer : List ℕ)
    (b : TagBlock)
    → 2 ≤ n → Holds (begins closer) (drop n rest) o → element_to value n (drop n rest) o ≡ Some b
    → Reaches b.size b.contents rest
unfolding Holds
element_reaches value n rest None closer b l h e = absurd (cc)
element_reaches value n rest (Some i) closer b l h e = by (all_blank (take i (drop n rest))) e
  where
    built : Reaches (n + i) (take i (drop n rest)) rest
    built = record { some = omega arith; within = omega (arith, h.0, length-drop n rest); holds = omega (arith, length-take i (drop n rest)) }

    Within : Option TagBlock → Type 0
    Within None = Unit {0}
    Within (Some f) = Reaches f.size f.contents rest

    by : (x : Bool) → cond x None (Some (record { value = value; contents = take i (drop n rest); size = n + i })) ≡ Some b → Reaches b.size b.contents rest
    by true e = absurd (cc)
    by false e = subst Within e built

-- an opening ends two bytes or more behind its place
Past : ℕ → Option Opening → Type 0
Past p None = Unit {0}
Past p (Some o) = p + 2 ≤ o.whole.stop

past_value : (p n : ℕ) (inside : List ℕ) (value : Option Span) (o : Option ℕ) → p < n
    → Past p (option_map
    (λ k. record {
      whole = record { start = p; stop = n + (value_end value + k + 1) };
      value = option_map (shifted n) value;
    })
    o)
unfolding Past
past_value p n inside value None l = tt
past_value p n inside value (Some k) l = omega arith

past_before : (attribute : List ℕ) (p n : ℕ) (inside : List ℕ) (o : Option ℕ) → p < n → Past p (opening_before attribute p n inside o)
unfolding Past
past_before attribute p n inside None l = tt
past_before attribute p n inside (Some g) l = past_value p n inside (value_in attribute (take g inside)) (first_of (codes ">") (drop (value_end (value_in attribute (take g inside))) inside)) l

token_some : (tag : Tag) → 0 < length (token_of tag)
token_some Script = omega arith
token_some Style = omega arith
token_some Template = omega arith

element_past : (tag : Tag) (part rest : List ℕ) (k : ℕ) (o : Option Opening) (b : TagBlock) → Past k o → element_of tag part k rest o ≡ Some b → Reaches b.size b.contents rest
unfolding Past
element_past tag part rest k None b l e = absurd (cc)
element_past tag part rest k (Some o) b l e =
    element_reaches (option_map (bytes_of part) o.value) (o.whole.stop - k) rest (first_of (closer_of tag) (drop (o.whole.stop - k) rest)) (closer_of tag) b (omega arith)
    (first_holds (begins (closer_of tag)) (drop (o.whole.stop - k) rest)) e

pub tag_reach : (tag : Tag) (part rest : List ℕ) (k : ℕ) (b : TagBlock) → tag_block tag part k rest ≡ Some b → Reaches b.size b.contents rest
tag_reach tag part rest k b h =
    let c = chosen (is_at k (first_of (token_of tag) part)) (element_of tag part k rest (opening_at tag part k)) b h in
    let n = k + length (token_of tag) in
    element_past tag part rest k (opening_at tag part k) b
    (past_before (attribute_of tag) k n (drop n part) (last_of (codes ">") (drop n part)) (omega (arith, token_some tag))) c.1

target_reaches : (rest : List ℕ) (o : Option ℕ) → 2 ≤ length rest
    → Holds (begins (codes "=}")) (drop 2 rest) o
    → Reaches (2 + length (target_contents (drop 2 rest) o)) (target_contents (drop 2 rest) o) rest
unfolding Holds
target_reaches rest None l h = record { some = omega arith; within = omega (arith, length-drop 2 rest); holds = omega arith }
target_reaches rest (Some i) l h = record { some = omega arith; within = omega (arith, length-drop 2 rest, length-take i (drop 2 rest)); holds = omega arith }

pub target_reach : (part rest tail : List ℕ) (k : ℕ) (b : TargetBlock) → rest ≡ drop k part ++ tail → target_block part k rest ≡ Some b → Reaches b.size b.contents rest
target_reach part rest tail k b e h =
    let opener = codes "{=" in
    let here = drop k part in
    let c = chosen (is_at k (first_of opener part)) (Some (target_from rest)) b h in
    let stands = at_is (begins opener) part k (first_of opener part) (first_holds (begins opener) part) c.0 in
    let long : 2 ≤ length rest = omega (arith, begins-fits opener here stands.1, ap length e, length-append here tail) in
    subst (λ o. Within o rest) c.1 (target_reaches rest (first_of (codes "=}") (drop 2 rest)) long (first_holds (begins (codes "=}")) (drop 2 rest)))
  where
    Within : Option TargetBlock → List ℕ → Type 0
    Within None rest = Unit {0}
    Within (Some f) rest = Reaches f.size f.contents rest
