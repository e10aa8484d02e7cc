-- An object with fewer than two members has no language both by its key and by its name.
use Rattle.std.proofs.Common.{◌≡◌, ℕ, ◌<◌, List, [], ◌∷◌, length, Bool, true, false, ◌&&◌, not, Option, None, Some, is_some}
use Rattle.std.proofs.Common.{bytes_eq, is_eq, refl, sym, ap, ◌∙◌, arith, Ordering, Less, Equal, Greater, nat_cmp, Bor}
use Rattle.std.proofs.lemmas.Map.Text.{is_eq-slice_cmp}
use Rattle.std.proofs.lemmas.Slice.Eq.{bytes_eq-Decides}
use Rattle.std.specs.Cmp.Lexicographic.{slice_cmp}
use Rattle.std.specs.Ordering.{match_ordering}
use Rattle.json.specs.Value.{members_view}
use Rattle.json.specs.declared.value.Value.{Value}
use Rattle.serde_json.specs.Data.{Data, object, no_members, member}
use Rattle.serde_json.specs.Find.{get_member}
use Rattle.tokei_json_tree.specs.TreeData.{members_data}
use Rattle.tokei_table.specs.Lookups.{row_at}
use Rattle.tokei_table.specs.Row.{Row}
use Rattle.tokei_json.specs.LanguageMaps.{has_both, language_named, names_once}

found_alone : (o : Ordering) (d : Data) → is_some (match_ordering o None (Some d) None) ≡ is_eq o
found_alone Less d = refl
found_alone Equal d = refl
found_alone Greater d = refl

-- the name that a lone member is found by is its own
own_name : (a k : List ℕ) (d : Data) → is_some (get_member a (member k d no_members)) ≡ true → a ≡ k
own_name a k d e =
    (bytes_eq-Decides a k).0 (sym (is_eq-slice_cmp a k) ∙ sym (found_alone (slice_cmp nat_cmp a k) d) ∙ e)

not_both : (a b c : Bool) → (a ≡ true → b ≡ true → c ≡ true) → (not c && (a && b)) ≡ false
not_both a b true h = refl
not_both false b false h = refl
not_both true false false h = refl
not_both true true false h = sym (h refl refl)

alone : (rows : List Row) (k : List ℕ) (d : Data) (o : Option ℕ) → has_both rows (object (member k d no_members)) o ≡ false
alone rows k d None = refl
alone rows k d (Some l) =
    let a = (row_at rows l).key in
    let b = (row_at rows l).name in
    not_both (is_some (get_member a (member k d no_members))) (is_some (get_member b (member k d no_members))) (bytes_eq a b)
    (λ e f. (bytes_eq-Decides a b).1 (own_name a k d e ∙ sym (own_name b k d f)))

pub few_once : {A : Type 0} (rows : List Row) (ms : List (Bor (List ℕ) × Value A)) → length ms < 2
    → names_once rows (object (members_data (members_view ms))) ≡ true
few_once rows [] h = refl
few_once rows (m ∷ []) h = ap (λ t. not t && true) (alone rows m.0.now _ (language_named rows m.0.now))
few_once rows (m ∷ n ∷ ms) h = absurd (omega arith)
