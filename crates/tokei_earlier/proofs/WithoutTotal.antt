-- What the total of a document holds has no say in what becomes of the document.
use Rattle.std.proofs.Common.{◌≡◌, ℕ, ◌≤◌, Bool, true, false, not, ◌&&◌, ◌||◌, List, [], length, Option, None, Some, is_some, Ok, if◌then◌else◌, codes, bytes_eq, Ordering, Less, Equal, Greater, refl, sym, ap, ap₂, ◌∙◌}
use Rattle.std.proofs.lemmas.Slice.Eq.{bytes_eq-Decides}
use Rattle.std.specs.List.{list_any}
use Rattle.std.specs.Cmp.Lexicographic.{slice_cmp}
use Rattle.std.specs.Ordering.{nat_cmp, match_ordering}
use Rattle.json.specs.Json as json
use Rattle.serde_json.specs.Data.{Data, null, boolean, number, string, array, object, Members, no_members, member}
use Rattle.serde_json.specs.Find.{get_member}
use Rattle.serde_json.specs.Written.{has_float, members_have_float}
use Rattle.tokei_earlier.specs.Outcome.{outcome_of_reading, outcome_of_text, outcome_of_value}
use Rattle.tokei_earlier.specs.Reading.{language_in, put_named, with_languages}
use Rattle.tokei_json.proofs.Names.{total_unnamed}
use Rattle.tokei_json.specs.LanguageMaps.{all_known, all_names, all_once, has_both, language_named, language_passes, languages_pass, names_once, passes}
use Rattle.tokei_json.specs.Layout.{are_languages, has_layout, is_language}
use Rattle.tokei_json.specs.declared.language_maps.MapTest.TheVariants.{Known, Once}
use Rattle.tokei_json_tree.proofs.Orderings.{first_none, none_either, second_none}
use Rattle.tokei_json_tree.specs.TreeData.{data_of}
use Rattle.tokei_json_tree.specs.Without.{IsReadingWithout, members_without, without}
use Rattle.tokei_languages.specs.Values.{LanguageValue}
use Rattle.tokei_table.specs.Lookups.{row_at}
use Rattle.tokei_table.specs.Row.{Row}
use Rattle.tokei_table.specs.RowNames.{is_total}
use Rattle.tokei_earlier.proofs.Texts.{by_reading}
use Rattle.tokei_earlier.proofs.Values.{by_tests, tested}

abbrev total : List ℕ
total = codes "Total"

abbrev bare : Members → Members
bare ms = members_without total ms

-- what a member holds
abbrev held : Bool → Data → Data
held b d = if b then null else d

-- it stands there, where it did
stands : (q : List ℕ) (ms : Members) → is_some (get_member q (bare ms)) ≡ is_some (get_member q ms)
stands q no_members = refl
stands q (member k d ms) = by_order (slice_cmp nat_cmp q k) (stands q ms)
  where
    by_order : (o : Ordering) → is_some (get_member q (bare ms)) ≡ is_some (get_member q ms)
        → is_some (match_ordering o (get_member q (bare ms)) (Some (held (bytes_eq k total) d)) (get_member q (bare ms)))
        ≡ is_some (match_ordering o (get_member q ms) (Some d) (get_member q ms))
    by_order Less h = h
    by_order Equal h = refl
    by_order Greater h = h

either : (test : Data → Bool) (b : Bool) (d : Data) → (b || test (held b d)) ≡ (b || test d)
either test true d = refl
either test false d = refl

same_languages : (ms : Members) → are_languages (bare ms) ≡ are_languages ms
same_languages no_members = refl
same_languages (member k d ms) = ap₂ (λ a b. a && b) (either is_language (bytes_eq k total) d) (same_languages ms)

same_pass : (test : Data → Bool) (ms : Members) → languages_pass test (bare ms) ≡ languages_pass test ms
same_pass test no_members = refl
same_pass test (member k d ms) = ap₂ (λ a b. a && b) (either (language_passes test) (bytes_eq k total) d) (same_pass test ms)

same_names : (f g : List ℕ → Bool) → ((k : List ℕ) → f k ≡ g k) → (ms : Members) → all_names f (bare ms) ≡ all_names g ms
same_names f g same no_members = refl
same_names f g same (member k d ms) = ap₂ (λ a b. a && b) (same k) (same_names f g same ms)

module _ (rows : List Row) where
  same_both : (ms : Members) (o : Option ℕ) → has_both rows (object (bare ms)) o ≡ has_both rows (object ms) o
  same_both ms None = refl
  same_both ms (Some l) =
      ap₂ (λ a b. not (bytes_eq (row_at rows l).key (row_at rows l).name) && (a && b)) (stands (row_at rows l).key ms) (stands (row_at rows l).name ms)

  same_once : (ms : Members) → names_once rows (object (bare ms)) ≡ names_once rows (object ms)
  same_once ms =
      same_names (λ k. not (has_both rows (object (bare ms)) (language_named rows k))) (λ k. not (has_both rows (object ms) (language_named rows k)))
      (λ k. ap not (same_both ms (language_named rows k))) ms

  all_once_same : (ms : Members) → all_once rows (object (bare ms)) ≡ all_once rows (object ms)
  unfolding all_once
  all_once_same ms = ap₂ (λ a b. a && b) (same_once ms) (same_pass (passes rows Once) ms)

  all_known_same : (ms : Members) → all_known rows (object (bare ms)) ≡ all_known rows (object ms)
  unfolding all_known
  all_known_same ms =
      ap₂ (λ a b. a && b)
      (same_names (λ k. bytes_eq k total || is_some (language_named rows k)) (λ k. bytes_eq k total || is_some (language_named rows k)) (λ k. refl) ms)
      (same_pass (passes rows Known) ms)

  module _ (unnamed : list_any is_total rows ≡ false) where
    read_same : (ms : Members) (found : List (ℕ × LanguageValue)) → with_languages rows (bare ms) found ≡ with_languages rows ms found
    read_same no_members found = refl
    read_same (member k d ms) found =
        ap (with_languages rows (bare ms)) (by_name (bytes_eq k total) refl) ∙ read_same ms (put_named (language_named rows k) found (language_in rows d))
      where
        by_name : (b : Bool) → bytes_eq k total ≡ b
            → put_named (language_named rows k) found (language_in rows (held (bytes_eq k total) d)) ≡ put_named (language_named rows k) found (language_in rows d)
        by_name true e =
            let none : language_named rows k ≡ None = ap (language_named rows) ((bytes_eq-Decides k total).0 e) ∙ total_unnamed rows unnamed in
            ap (λ o. put_named o found (language_in rows (held (bytes_eq k total) d))) none
            ∙ sym (ap (λ o. put_named o found (language_in rows d)) none)
        by_name false e = ap (λ b. put_named (language_named rows k) found (language_in rows (held b d))) e

bare_whole : (ms : Members) → members_have_float ms ≡ false → members_have_float (bare ms) ≡ false
bare_whole no_members e = refl
bare_whole (member k d ms) e =
    none_either (has_float (held (bytes_eq k total) d)) (members_have_float (bare ms)) (by_name (bytes_eq k total))
    (bare_whole ms (second_none (has_float d) (members_have_float ms) e))
  where
    by_name : (b : Bool) → has_float (held b d) ≡ false
    by_name true = refl
    by_name false = first_none (has_float d) (members_have_float ms) e

layout_same : (ms : Members) → members_have_float ms ≡ false → has_layout (object (bare ms)) ≡ has_layout (object ms)
unfolding has_layout
layout_same ms whole =
    ap₂ (λ a b. not a && b) (bare_whole ms whole ∙ sym whole) (ap₂ (λ a b. a && b) (stands total ms) (same_languages ms))

without_total : (rows : List Row) → list_any is_total rows ≡ false → (value : Data) → has_float value ≡ false
    → outcome_of_value rows (without total value) ≡ outcome_of_value rows value
without_total rows unnamed null whole = refl
without_total rows unnamed (boolean b) whole = refl
without_total rows unnamed (number n) whole = refl
without_total rows unnamed (string s) whole = refl
without_total rows unnamed (array ds) whole = refl
without_total rows unnamed (object ms) whole =
    let value = object ms in
    by_tests rows (object (bare ms)) (layout_same ms whole) (all_known_same rows ms) (all_once_same rows ms)
    ∙ ap (λ read. tested (Ok read) (has_layout value) (all_known rows value) (all_once rows value)) (read_same rows unnamed ms [])
    ∙ sym (by_tests rows value refl refl refl)

-- what becomes of a text, by a tree of it without its total
pub text_without_total : (rows : List Row) (text : List ℕ) (j : json.Json) → list_any is_total rows ≡ false → 1 ≤ length text
    → IsReadingWithout total text j → outcome_of_text rows text ≡ outcome_of_value rows (data_of j)
text_without_total rows text j unnamed some reading =
    by_reading rows text some ∙ ap (outcome_of_reading rows) reading.reads
    ∙ sym (without_total rows unnamed reading.whole reading.no_float)
    ∙ ap (outcome_of_value rows) (sym reading.same)
    ∙ without_total rows unnamed (data_of j) reading.no_float_in_tree
