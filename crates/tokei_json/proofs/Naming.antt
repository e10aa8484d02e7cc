-- Values by the names of their languages, as members of an object.
use Rattle.std.proofs.Common.{◌≡◌, ℕ, List, [], ◌∷◌, map, refl, ap, ◌∙◌, Ordering, Less, Equal, Greater, nat_cmp, Bor}
use Rattle.std.specs.BTreeMap.{insert_entry}
use Rattle.std.specs.Cmp.Lexicographic.{slice_cmp}
use Rattle.std.specs.List.{AllByRecursion}
use Rattle.std.specs.List.Sorted.{IsStrictlySortedBy}
use Rattle.std.specs.Map.{keys_of}
use Rattle.std.specs.Ordering.{match_ordering}
use Rattle.serde_json.specs.Data.{Data, Members, member, put}
use Rattle.tokei_languages.specs.Names.{name_in}
use Rattle.tokei_json.specs.ReportData.{named_data, blobs_data, statistics_data}
use Rattle.tokei_json.specs.Tokens.{named, members_by}
use Rattle.tokei_json.proofs.Writing.{IsBelow, Ascend}
use Rattle.tokei_stats.specs.Seen.{blobs_of}
use Rattle.tokei_stats.specs.Statistics.{Statistics}
use Rattle.tokei_table.specs.Row.{Row}

-- how texts that are borrowed compare
abbrev pub text_cmp : Bor (List ℕ) → Bor (List ℕ) → Ordering
text_cmp x y = slice_cmp nat_cmp x.now y.now

-- what is borrowed
abbrev pub now_of : {T : Type 0} → Bor T → T
now_of x = x.now

-- entries of a map of borrowed names, as they are seen
abbrev pub seen_by : {V W : Type 0} → (V → W) → List (Bor (List ℕ) × V) → List (List ℕ × W)
seen_by g es = map (λ e. (e.0.now, g e.1)) es

module _ {V W : Type 0} (g : V → W) where
  insert_by : (o : Ordering) (k : Bor (List ℕ)) (v : V) (e : Bor (List ℕ) × V) (es more : List (Bor (List ℕ) × V)) (later : List (List ℕ × W)) → seen_by g more ≡ later
      → seen_by g (match_ordering o ((k, v) ∷ e ∷ es) ((e.0, v) ∷ es) (e ∷ more))
      ≡ match_ordering o ((k.now, g v) ∷ seen_by g (e ∷ es)) ((e.0.now, g v) ∷ seen_by g es) ((e.0.now, g e.1) ∷ later)
  insert_by Less k v e es more later h = refl
  insert_by Equal k v e es more later h = refl
  insert_by Greater k v e es more later h = ap (λ fs. (e.0.now, g e.1) ∷ fs) h

  -- an insertion is seen as one
  pub insert_seen : (es : List (Bor (List ℕ) × V)) (k : Bor (List ℕ)) (v : V) → seen_by g (insert_entry text_cmp es k v) ≡ insert_entry (slice_cmp nat_cmp) (seen_by g es) k.now (g v)
  insert_seen [] k v = refl
  insert_seen (e ∷ es) k v = insert_by (text_cmp k e.0) k v e es (insert_entry text_cmp es k v) (insert_entry (slice_cmp nat_cmp) (seen_by g es) k.now (g v)) (insert_seen es k v)

  below : (f : W → Data) (k : Bor (List ℕ)) (es : List (Bor (List ℕ) × V)) → AllByRecursion (λ y. text_cmp k y ≡ Less) (keys_of es) → IsBelow k.now (members_by f (seen_by g es))
  below f k [] h = tt
  below f k (e ∷ es) h = (h.0, below f k es h.1)

  -- the members of a map ascend by name
  pub ascend : (f : W → Data) (es : List (Bor (List ℕ) × V)) → IsStrictlySortedBy text_cmp (keys_of es) → Ascend (members_by f (seen_by g es))
  unfolding IsStrictlySortedBy
  ascend f [] h = tt
  ascend f (e ∷ es) h = (below f e.0 es h.0, ascend f es h.1)

module _ {T : Type 0} (f : T → Data) where
  put_by : (o : Ordering) (k : List ℕ) (v : T) (e : List ℕ × T) (es more : List (List ℕ × T)) (later : Members) → members_by f more ≡ later
      → members_by f (match_ordering o ((k, v) ∷ e ∷ es) ((e.0, v) ∷ es) (e ∷ more))
      ≡ match_ordering o (member k (f v) (members_by f (e ∷ es))) (member e.0 (f v) (members_by f es)) (member e.0 (f e.1) later)
  put_by Less k v e es more later h = refl
  put_by Equal k v e es more later h = refl
  put_by Greater k v e es more later h = ap (member e.0 (f e.1)) h

  -- an insertion under a name is a `put`
  pub insert_member : (es : List (List ℕ × T)) (k : List ℕ) (v : T) → members_by f (insert_entry (slice_cmp nat_cmp) es k v) ≡ put k (f v) (members_by f es)
  insert_member [] k v = refl
  insert_member (e ∷ es) k v = put_by (slice_cmp nat_cmp k e.0) k v e es (insert_entry (slice_cmp nat_cmp) es k v) (put k (f v) (members_by f es)) (insert_member es k v)

-- values by name are the members that the definition puts
pub named_members : {T S : Type 0} (rows : List Row) (seen : T → S) (value_of : S → Data) (es : List (ℕ × T)) (found : List (List ℕ × T))
    → members_by (λ t. value_of (seen t)) (named rows es found) ≡ named_data rows value_of (map (λ e. (e.0, seen e.1)) es) (members_by (λ t. value_of (seen t)) found)
named_members rows seen value_of [] found = refl
named_members rows seen value_of (e ∷ es) found =
    named_members rows seen value_of es (insert_entry (slice_cmp nat_cmp) found (name_in rows e.0) e.1)
    ∙ ap (named_data rows value_of (map (λ e. (e.0, seen e.1)) es)) (insert_member (λ t. value_of (seen t)) found (name_in rows e.0) e.1)

-- blobs are put as other values are
pub named_blobs : (rows : List Row) (es : List (ℕ × Statistics)) (ms : Members) → blobs_data rows (blobs_of es) ms ≡ named_data rows (statistics_data rows) es ms
named_blobs rows [] ms = refl
named_blobs rows (e ∷ es) ms = named_blobs rows es (put (name_in rows e.0) (statistics_data rows e.1) ms)
