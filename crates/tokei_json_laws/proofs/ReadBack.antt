-- Entries that are put under the names of their languages are read back.
use Rattle.std.proofs.Common.{◌≡◌, ℕ, ◌<◌, List, [], ◌∷◌, Option, None, Some, refl, sym, ap, ◌∙◌, arith, nat_cmp, Ordering, Less, Equal, Greater}
use Rattle.std.proofs.lemmas.Cmp.{ranked}
use Rattle.std.specs.List.{AllByRecursion}
use Rattle.std.specs.List.Sorted.{IsStrictlySortedBy}
use Rattle.std.specs.Map.{keys_of}
use Rattle.std.specs.Ordering.{match_ordering}
use Rattle.std.specs.Cmp.Lexicographic.{slice_cmp}
use Rattle.std.specs.BTreeMap.{insert_entry}
use Rattle.serde_json.specs.Data.{Data, Members, no_members, member, put}
use Rattle.tokei_table.specs.Row.{Row}
use Rattle.tokei_languages.specs.Names.{name_in}
use Rattle.tokei_json.specs.Document.{named_data}
use Rattle.tokei_json.specs.LanguageMaps.{language_named}
use Rattle.tokei_earlier.specs.Reading.{put_named}
use Rattle.tokei_json_laws.proofs.Commuting.{insert_commutes}
use Rattle.tokei_json.proofs.Members.{AllMembers, all_put, same_text}

below : (x y : ℕ) → nat_cmp x y ≡ Less → x < y
below x y h = ranked x y Less (sym h)

module _ (rows : List Row) {S : Type 0} (read : Data → S) where
  -- the entries that are there, and those of the members
  abbrev pub all_read : Members → List (ℕ × S) → List (ℕ × S)
  all_read no_members found = found
  all_read (member k d ms) found = all_read ms (put_named (language_named rows k) found (read d))

  -- no member is the language
  abbrev pub IsApart : ℕ → Members → Type 0
  IsApart k ms = AllMembers (λ l d. language_named rows l ≡ Some k → ⊥) ms

  named_commutes : (o : Option ℕ) (k : ℕ) (found : List (ℕ × S)) (x y : S) → (o ≡ Some k → ⊥)
      → insert_entry nat_cmp (put_named o found x) k y ≡ put_named o (insert_entry nat_cmp found k y) x
  named_commutes None k found x y other = refl
  named_commutes (Some j) k found x y other = insert_commutes found j k x y (λ e. other (ap Some e))

  pushed_by : (o : Ordering) (k : ℕ) (name l : List ℕ) (d e : Data) (ms more : Members) (found : List (ℕ × S)) → slice_cmp nat_cmp name l ≡ o
      → language_named rows name ≡ Some k → (language_named rows l ≡ Some k → ⊥)
      → ((there : List (ℕ × S)) → all_read more there ≡ all_read ms (insert_entry nat_cmp there k (read d)))
      → all_read (match_ordering o (member name d (member l e ms)) (member l d ms) (member l e more)) found ≡ all_read (member l e ms) (insert_entry nat_cmp found k (read d))
  pushed_by Less k name l d e ms more found by is other later = ap (λ p. all_read (member l e ms) (put_named p found (read d))) is
  pushed_by Equal k name l d e ms more found by is other later = absurd (other (ap (language_named rows) (sym (same_text name l by)) ∙ is))
  pushed_by Greater k name l d e ms more found by is other later =
      later (put_named (language_named rows l) found (read e)) ∙ ap (all_read ms) (named_commutes (language_named rows l) k found (read e) (read d) other)

  -- a member that is put is read before the others
  pushed : (k : ℕ) (name : List ℕ) (d : Data) (ms : Members) (found : List (ℕ × S)) → language_named rows name ≡ Some k → IsApart k ms
      → all_read (put name d ms) found ≡ all_read ms (insert_entry nat_cmp found k (read d))
  pushed k name d no_members found is h = ap (λ p. put_named p found (read d)) is
  pushed k name d (member l e ms) found is h =
      pushed_by (slice_cmp nat_cmp name l) k name l d e ms (put name d ms) found refl is h.0 (λ there. pushed k name d ms there is h.1)

  passed_by : (o : Ordering) (name l : List ℕ) (d e : Data) (ms more : Members) (found : List (ℕ × S)) → slice_cmp nat_cmp name l ≡ o
      → language_named rows name ≡ None → ((there : List (ℕ × S)) → all_read more there ≡ all_read ms there)
      → all_read (match_ordering o (member name d (member l e ms)) (member l d ms) (member l e more)) found ≡ all_read (member l e ms) found
  passed_by Less name l d e ms more found by is later = ap (λ p. all_read (member l e ms) (put_named p found (read d))) is
  passed_by Equal name l d e ms more found by is later =
      let none : language_named rows l ≡ None = ap (language_named rows) (sym (same_text name l by)) ∙ is in
      ap (λ p. all_read ms (put_named p found (read d))) none ∙ sym (ap (λ p. all_read ms (put_named p found (read e))) none)
  passed_by Greater name l d e ms more found by is later = later (put_named (language_named rows l) found (read e))

  -- a member that names no language is passed over
  pub passed : (name : List ℕ) (d : Data) (ms : Members) (found : List (ℕ × S)) → language_named rows name ≡ None → all_read (put name d ms) found ≡ all_read ms found
  passed name d no_members found is = ap (λ p. put_named p found (read d)) is
  passed name d (member l e ms) found is =
      passed_by (slice_cmp nat_cmp name l) name l d e ms (put name d ms) found refl is (λ there. passed name d ms there is)

  -- the entries, the last one put first
  abbrev put_all : List (ℕ × S) → List (ℕ × S) → List (ℕ × S)
  put_all [] found = found
  put_all (e ∷ es) found = insert_entry nat_cmp (put_all es found) e.0 e.1

  put_first : (e : ℕ × S) (es : List (ℕ × S)) → AllByRecursion (λ y. nat_cmp e.0 y ≡ Less) (keys_of es) → insert_entry nat_cmp es e.0 e.1 ≡ e ∷ es
  put_first e [] h = refl
  put_first e (f ∷ fs) h = ap (λ o. match_ordering o (e ∷ f ∷ fs) ((f.0, e.1) ∷ fs) (f ∷ insert_entry nat_cmp fs e.0 e.1)) h.0

  put_all-sorted : (es : List (ℕ × S)) → IsStrictlySortedBy nat_cmp (keys_of es) → put_all es [] ≡ es
  unfolding IsStrictlySortedBy
  put_all-sorted [] h = refl
  put_all-sorted (e ∷ es) h = ap (λ l. insert_entry nat_cmp l e.0 e.1) (put_all-sorted es h.1) ∙ put_first e es h.0

  apart_still : (k : ℕ) (name : List ℕ) (d : Data) (es : List (ℕ × S)) (ms : Members) → language_named rows name ≡ Some k
      → AllByRecursion (λ y. nat_cmp k y ≡ Less) (keys_of es) → AllByRecursion (λ e. IsApart e.0 ms) es → AllByRecursion (λ e. IsApart e.0 (put name d ms)) es
  apart_still k name d [] ms is above h = tt
  apart_still k name d (f ∷ fs) ms is above h =
      let less : k < f.0 = below k f.0 above.0 in (
        all_put (λ l x. language_named rows l ≡ Some f.0 → ⊥) name d ms (λ e. let same : k ≡ f.0 = cc (is, e) in absurd (omega arith)) h.0,
        apart_still k name d fs ms is above.1 h.1,
      )

  module _ (value_of : S → Data) where
    -- each entry's name leads back to its language, and its value is read back
    abbrev pub Returns : List (ℕ × S) → Type 0
    Returns es = AllByRecursion (λ e. (language_named rows (name_in rows e.0) ≡ Some e.0) × (read (value_of e.1) ≡ e.1)) es

    read_named : (es : List (ℕ × S)) (ms : Members) (found : List (ℕ × S)) → Returns es → IsStrictlySortedBy nat_cmp (keys_of es) → AllByRecursion (λ e. IsApart e.0 ms) es
        → all_read (named_data rows value_of es ms) found ≡ all_read ms (put_all es found)
    unfolding IsStrictlySortedBy
    read_named [] ms found back sorted h = refl
    read_named (e ∷ es) ms found back sorted h =
        read_named es (put (name_in rows e.0) (value_of e.1) ms) found back.1 sorted.1 (apart_still e.0 (name_in rows e.0) (value_of e.1) es ms back.0.0 sorted.0 h.1)
        ∙ pushed e.0 (name_in rows e.0) (value_of e.1) ms (put_all es found) back.0.0 h.0
        ∙ ap (λ s. all_read ms (insert_entry nat_cmp (put_all es found) e.0 s)) back.0.1

    none_apart : (es : List (ℕ × S)) → AllByRecursion (λ e. IsApart e.0 no_members) es
    none_apart [] = tt
    none_apart (e ∷ es) = (tt, none_apart es)

    -- entries in the order of their keys are read back
    pub returned : (es : List (ℕ × S)) → Returns es → IsStrictlySortedBy nat_cmp (keys_of es) → all_read (named_data rows value_of es no_members) [] ≡ es
    returned es back sorted = read_named es no_members [] back sorted (none_apart es) ∙ put_all-sorted es sorted
