-- What holds of each member of an object that is made by `put`.
use Rattle.std.proofs.Common.{◌≡◌, ℕ, List, [], ◌∷◌, refl, sym, ap, ◌∙◌, subst, Ordering, Less, Equal, Greater, is_eq, nat_cmp}
use Rattle.std.specs.Bool.{⊤}
use Rattle.std.proofs.lemmas.Map.Text.{is_eq-slice_cmp}
use Rattle.std.proofs.lemmas.Slice.Eq.{bytes_eq-Decides}
use Rattle.std.specs.Ordering.{match_ordering}
use Rattle.std.specs.List.{AllByRecursion}
use Rattle.std.specs.Cmp.Lexicographic.{slice_cmp}
use Rattle.serde_json.specs.Data.{Data, Members, no_members, member, put}
use Rattle.tokei_table.specs.Row.{Row}
use Rattle.tokei_languages.specs.Names.{name_in}
use Rattle.tokei_json.specs.ReportData.{named_data}

-- the texts that compare as equal are
pub same_text : (k l : List ℕ) → slice_cmp nat_cmp k l ≡ Equal → k ≡ l
same_text k l is = (bytes_eq-Decides k l).0 (sym (is_eq-slice_cmp k l) ∙ ap is_eq is)

module _ (P : List ℕ → Data → Type 0) where
  abbrev pub AllMembers : Members → Type 0
  AllMembers no_members = ⊤
  AllMembers (member k d ms) = P k d × AllMembers ms

  all_put_by : (o : Ordering) (k l : List ℕ) (d e : Data) (ms more : Members) → (o ≡ Equal → k ≡ l) → P k d → P l e → AllMembers ms → AllMembers more
      → AllMembers (match_ordering o (member k d (member l e ms)) (member l d ms) (member l e more))
  all_put_by Less k l d e ms more same new there rest later = (new, (there, rest))
  all_put_by Equal k l d e ms more same new there rest later = (subst (λ t. P t d) (same refl) new, rest)
  all_put_by Greater k l d e ms more same new there rest later = (there, later)

  pub all_put : (k : List ℕ) (d : Data) (ms : Members) → P k d → AllMembers ms → AllMembers (put k d ms)
  all_put k d no_members new h = (new, tt)
  all_put k d (member l e ms) new h =
      all_put_by (slice_cmp nat_cmp k l) k l d e ms (put k d ms) (same_text k l) new h.0 h.1 (all_put k d ms new h.1)

  -- entries that are put under their names, where it holds of each
  pub all_named : {S : Type 0} (rows : List Row) (value_of : S → Data) (es : List (ℕ × S)) (ms : Members)
      → ((k : ℕ) (s : S) → P (name_in rows k) (value_of s)) → AllMembers ms → AllMembers (named_data rows value_of es ms)
  all_named rows value_of [] ms f h = h
  all_named rows value_of (e ∷ es) ms f h = all_named rows value_of es (put (name_in rows e.0) (value_of e.1) ms) f (all_put (name_in rows e.0) (value_of e.1) ms (f e.0 e.1) h)

  pub all_named_each : {S : Type 0} (rows : List Row) (value_of : S → Data) (es : List (ℕ × S)) (ms : Members)
      → AllByRecursion (λ e. P (name_in rows e.0) (value_of e.1)) es → AllMembers ms → AllMembers (named_data rows value_of es ms)
  all_named_each rows value_of [] ms f h = h
  all_named_each rows value_of (e ∷ es) ms f h =
      all_named_each rows value_of es (put (name_in rows e.0) (value_of e.1) ms) f.1 (all_put (name_in rows e.0) (value_of e.1) ms f.0 h)

-- what holds of each member, by what holds of each member
pub all_mono : (P Q : List ℕ → Data → Type 0) (ms : Members) → ((k : List ℕ) (d : Data) → P k d → Q k d) → AllMembers P ms → AllMembers Q ms
all_mono P Q no_members f h = tt
all_mono P Q (member k d ms) f h = (f k d h.0, all_mono P Q ms f h.1)
