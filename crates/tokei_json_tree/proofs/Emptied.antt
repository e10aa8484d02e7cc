-- A tree in which the members of one name hold `null` stands for what the text reads as, but for those.
use Rattle.std.proofs.Common.{◌≡◌, ℕ, List, Bool, true, false, ◌&&◌, if◌then◌else◌, Option, None, Some, option_map, option_and_then, bytes_eq, is_eq, Ordering, Less, Equal, Greater, true≢false, refl, sym, ap, ◌∙◌, subst}
use Rattle.std.proofs.lemmas.Map.Text.{is_eq-slice_cmp}
use Rattle.std.proofs.lemmas.Slice.Eq.{bytes_eq-Decides}
use Rattle.std.specs.Cmp.Lexicographic.{slice_cmp}
use Rattle.std.specs.Ordering.{nat_cmp, match_ordering}
use Rattle.std.specs.Prelude.{⊤}
use Rattle.json.specs.Json as json
use Rattle.serde_json.specs.Data.{Num, Data, null, boolean, number, string, array, object, no_items, item, Members, no_members, member, put}
use Rattle.serde_json.specs.Read.{number_of, of_json, of_items, of_members, read}
use Rattle.serde_json.specs.Written.{has_float, items_have_float, members_have_float}
use Rattle.tokei_json_tree.specs.Emptied.{are_counted, emptied, emptied_value, is_counted}
use Rattle.tokei_json_tree.specs.Numbers.{is_count, items_pass, members_pass, numbers_pass}
use Rattle.tokei_json_tree.specs.Orderings.{IsOrderingOf}
use Rattle.tokei_json_tree.specs.TreeData.{data_of, number_data}
use Rattle.tokei_json_tree.specs.Without.{IsReadingWithout, members_without, without}
use Rattle.tokei_json_tree.proofs.Orderings.{count_whole, first_none, none_either, second_none, whole_put}

first_true : (a b : Bool) → (a && b) ≡ true → a ≡ true
first_true true b e = refl
first_true false b e = absurd (true≢false (sym e))

second_true : (a b : Bool) → (a && b) ≡ true → b ≡ true
second_true true b e = e
second_true false b e = absurd (true≢false (sym e))

-- what is read, and has no other numbers than whole ones
record IsWhole {A : Type 0} (floats : A → Bool) (o : Option A) : Type 0 where
  data_read : A
  reads : o ≡ Some data_read
  whole : floats data_read ≡ false

abbrev IsWholeNumber : Option Num → Type 0
IsWholeNumber n = (option_map number n ≡ Some (number_data n)) × (has_float (number_data n) ≡ false)

mutual
  -- a value whose numbers are counts
  counted : (j : json.Json) → numbers_pass is_count j ≡ true → IsWhole has_float (of_json j)
  counted json.null e = record { data_read = null; reads = refl; whole = refl }
  counted (json.boolean b) e = record { data_read = boolean b; reads = refl; whole = refl }
  counted (json.number s) e =
      let h = count_whole (number_of s) e in
      record { data_read = number_data (number_of s); reads = h.0; whole = h.1 }
  counted (json.string s) e = record { data_read = string s; reads = refl; whole = refl }
  counted (json.array js) e =
      let h = counted_items js e in
      record { data_read = array h.data_read; reads = ap (option_map array) h.reads; whole = h.whole }
  counted (json.object ms) e =
      let h = counted_members ms no_members e refl in
      record { data_read = object h.data_read; reads = ap (option_map object) h.reads; whole = h.whole }

  counted_items : (js : json.Items) → items_pass is_count js ≡ true → IsWhole items_have_float (of_items js)
  counted_items json.no_items e = record { data_read = no_items; reads = refl; whole = refl }
  counted_items (json.item j js) e =
      let h = counted j (first_true (numbers_pass is_count j) (items_pass is_count js) e) in
      let more = counted_items js (second_true (numbers_pass is_count j) (items_pass is_count js) e) in
      record {
        data_read = item h.data_read more.data_read;
        reads = ap (option_and_then (λ d. option_map (item d) (of_items js))) h.reads ∙ ap (option_map (item h.data_read)) more.reads;
        whole = none_either (has_float h.data_read) (items_have_float more.data_read) h.whole more.whole;
      }

  counted_members : (ms : json.Members) (found : Members) → members_pass is_count ms ≡ true → members_have_float found ≡ false
      → IsWhole members_have_float (of_members ms found)
  counted_members json.no_members found e whole = record { data_read = found; reads = refl; whole = whole }
  counted_members (json.member k j ms) found e whole =
      let h = counted j (first_true (numbers_pass is_count j) (members_pass is_count ms) e) in
      let more = counted_members ms (put k h.data_read found) (second_true (numbers_pass is_count j) (members_pass is_count ms) e)
      (whole_put k h.data_read found h.whole whole) in
      record {
        data_read = more.data_read;
        reads = ap (option_and_then (λ d. of_members ms (put k d found))) h.reads ∙ more.reads;
        whole = more.whole;
      }

by_ordering : (P : Members → Type 0) (o : Ordering) (a b c : Members) → (o ≡ Less → P a) → (o ≡ Equal → P b) → (o ≡ Greater → P c)
    → P (match_ordering o a b c)
by_ordering P Less a b c f g h = f refl
by_ordering P Equal a b c f g h = g refl
by_ordering P Greater a b c f g h = h refl

same_key : (k l : List ℕ) → slice_cmp nat_cmp k l ≡ Equal → k ≡ l
same_key k l e = (bytes_eq-Decides k l).0 (sym (is_eq-slice_cmp k l) ∙ ap is_eq e)

module _ (name : List ℕ) where
  -- what a member of the name holds, and what another does
  abbrev held : Bool → Data → Data
  held b d = if b then null else d

  -- to leave out values and to put a member come to the same in either order
  commute : (k : List ℕ) (d : Data) (b : Bool) → bytes_eq k name ≡ b → (ms : Members)
      → members_without name (put k d ms) ≡ put k (held b d) (members_without name ms)
  commute k d b e no_members = ap (λ x. member k (held x d) no_members) e
  commute k d b e (member l f ms) = by_order (slice_cmp nat_cmp k l) refl (commute k d b e ms)
    where
      rest : Members
      rest = members_without name ms

      other : Data
      other = held (bytes_eq l name) f

      by_order : (o : Ordering) → slice_cmp nat_cmp k l ≡ o → members_without name (put k d ms) ≡ put k (held b d) (members_without name ms)
          → members_without name (match_ordering o (member k d (member l f ms)) (member l d ms) (member l f (put k d ms)))
          ≡ match_ordering o (member k (held b d) (member l other rest)) (member l (held b d) rest) (member l other (put k (held b d) rest))
      by_order Less is more = ap (λ x. member k (held x d) (member l other rest)) e
      by_order Equal is more = ap (λ x. member l (held x d) rest) (ap (λ x. bytes_eq x name) (sym (same_key k l is)) ∙ e)
      by_order Greater is more = ap (member l other) more

  counted_here : (k : List ℕ) (j : json.Json) (ms : json.Members) → are_counted name (json.member k j ms) ≡ true → bytes_eq k name ≡ true
      → numbers_pass is_count j ≡ true
  counted_here k j ms e f =
      let first = first_true (if bytes_eq k name then numbers_pass is_count j else true) (are_counted name ms) e in
      sym (ap (λ b. if b then numbers_pass is_count j else true) f) ∙ first

  counted_behind : (k : List ℕ) (j : json.Json) (ms : json.Members) → are_counted name (json.member k j ms) ≡ true → are_counted name ms ≡ true
  counted_behind k j ms e = second_true (if bytes_eq k name then numbers_pass is_count j else true) (are_counted name ms) e

  -- members without these values are read as what is read, without these values
  of_emptied : (ms : json.Members) (found : Members) → are_counted name ms ≡ true
      → of_members (emptied name ms) (members_without name found) ≡ option_map (members_without name) (of_members ms found)
  of_emptied json.no_members found e = refl
  of_emptied (json.member k j ms) found e = by_name (bytes_eq k name) refl (of_json j) refl (of_emptied ms)
    where
      of_rest : Members → Option Members
      of_rest = of_members (emptied name ms)

      by_name : (b : Bool) → bytes_eq k name ≡ b → (o : Option Data) → of_json j ≡ o
          → ((found : Members) → are_counted name ms ≡ true → of_rest (members_without name found) ≡ option_map (members_without name) (of_members ms found))
          → option_and_then (λ d. of_rest (put k d (members_without name found))) (of_json (if bytes_eq k name then json.null else j))
          ≡ option_map (members_without name) (option_and_then (λ d. of_members ms (put k d found)) (of_json j))
      by_name true f o g more =
          let h = counted j (counted_here k j ms e f) in
          ap (λ b. option_and_then (λ d. of_rest (put k d (members_without name found))) (of_json (if b then json.null else j))) f
          ∙ ap of_rest (sym (commute k h.data_read true f found))
          ∙ more (put k h.data_read found) (counted_behind k j ms e)
          ∙ ap (λ o. option_map (members_without name) (option_and_then (λ d. of_members ms (put k d found)) o)) (sym h.reads)
      by_name false f None g more =
          ap (λ b. option_and_then (λ d. of_rest (put k d (members_without name found))) (of_json (if b then json.null else j))) f
          ∙ ap (option_and_then (λ d. of_rest (put k d (members_without name found)))) g
          ∙ ap (λ o. option_map (members_without name) (option_and_then (λ d. of_members ms (put k d found)) o)) (sym g)
      by_name false f (Some d) g more =
          ap (λ b. option_and_then (λ d. of_rest (put k d (members_without name found))) (of_json (if b then json.null else j))) f
          ∙ ap (option_and_then (λ d. of_rest (put k d (members_without name found)))) g
          ∙ ap of_rest (sym (commute k d false f found))
          ∙ more (put k d found) (counted_behind k j ms e)
          ∙ ap (λ o. option_map (members_without name) (option_and_then (λ d. of_members ms (put k d found)) o)) (sym g)

  -- the values of the name have no other numbers than whole ones
  abbrev AreWholeThere : Members → Type 0
  AreWholeThere no_members = ⊤
  AreWholeThere (member k d ms) = (bytes_eq k name ≡ true → has_float d ≡ false) × AreWholeThere ms

  whole_there_put : (k : List ℕ) (d : Data) → (bytes_eq k name ≡ true → has_float d ≡ false) → (ms : Members) → AreWholeThere ms → AreWholeThere (put k d ms)
  whole_there_put k d whole no_members h = (whole, tt)
  whole_there_put k d whole (member l f ms) h =
      by_ordering AreWholeThere (slice_cmp nat_cmp k l) (member k d (member l f ms)) (member l d ms) (member l f (put k d ms))
      (λ is. (whole, h))
      (λ is. ((λ e. whole (ap (λ x. bytes_eq x name) (same_key k l is) ∙ e)), h.1))
      (λ is. (h.0, whole_there_put k d whole ms h.1))

  whole_there_read : (ms : json.Members) (found read : Members) → are_counted name ms ≡ true → AreWholeThere found → of_members ms found ≡ Some read
      → AreWholeThere read
  whole_there_read json.no_members found read e h is = subst AreWholeThere (some_same found read is) h
    where
      some_same : (a b : Members) → Some a ≡ Some b → a ≡ b
      some_same a b e = cc
  whole_there_read (json.member k j ms) found read e h is = by_value (of_json j) refl (whole_there_read ms)
    where
      by_value : (o : Option Data) → of_json j ≡ o
          → ((found read : Members) → are_counted name ms ≡ true → AreWholeThere found → of_members ms found ≡ Some read → AreWholeThere read)
          → AreWholeThere read
      by_value None g more = absurd (none_some (sym (ap (option_and_then (λ d. of_members ms (put k d found))) g) ∙ is))
        where
          none_some : None ≡ Some read → ⊥
          none_some e = cc
      by_value (Some d) g more =
          let whole : bytes_eq k name ≡ true → has_float d ≡ false = λ f.
          let c = counted j (counted_here k j ms e f) in
          ap has_float (some_data (sym g ∙ c.reads)) ∙ c.whole in
          more (put k d found) read (counted_behind k j ms e) (whole_there_put k d whole found h)
          (sym (ap (option_and_then (λ d. of_members ms (put k d found))) g) ∙ is)
        where
          some_data : {a b : Data} → Some a ≡ Some b → a ≡ b
          some_data e = cc

  whole_but : (ms : Members) → AreWholeThere ms → members_have_float (members_without name ms) ≡ false → members_have_float ms ≡ false
  whole_but no_members h e = refl
  whole_but (member k d ms) h e =
      none_either (has_float d) (members_have_float ms) (by_name (bytes_eq k name) refl)
      (whole_but ms h.1 (second_none (has_float (held (bytes_eq k name) d)) (members_have_float (members_without name ms)) e))
    where
      here : has_float (held (bytes_eq k name) d) ≡ false
      here = first_none (has_float (held (bytes_eq k name) d)) (members_have_float (members_without name ms)) e

      by_name : (b : Bool) → bytes_eq k name ≡ b → has_float d ≡ false
      by_name true f = h.0 f
      by_name false f = sym (ap (λ b. has_float (held b d)) f) ∙ here

  members_twice : (ms : Members) → members_without name (members_without name ms) ≡ members_without name ms
  members_twice no_members = refl
  members_twice (member k d ms) =
      ap (λ x. member k x (members_without name (members_without name ms))) (by_name (bytes_eq k name))
      ∙ ap (member k (held (bytes_eq k name) d)) (members_twice ms)
    where
      by_name : (b : Bool) → held b (held b d) ≡ held b d
      by_name true = refl
      by_name false = refl

-- the object that is read, where it is read without these values
object_read : (name : List ℕ) (ms : json.Members) (e : Data) → are_counted name ms ≡ true → has_float e ≡ false
    → of_json (json.object (emptied name ms)) ≡ Some e → (text : List ℕ) → read text ≡ of_json (json.object ms)
    → (d : Data) × (read text ≡ Some d) × (without name e ≡ without name d) × (has_float d ≡ false)
object_read name ms e are whole is text reads = by_members (of_members ms no_members) refl
  where
    told : option_map object (option_map (members_without name) (of_members ms no_members)) ≡ Some e
    told = sym (ap (option_map object) (of_emptied name ms no_members are)) ∙ is

    some_data : {a b : Data} → Some a ≡ Some b → a ≡ b
    some_data e = cc

    by_members : (o : Option Members) → of_members ms no_members ≡ o
        → (d : Data) × (read text ≡ Some d) × (without name e ≡ without name d) × (has_float d ≡ false)
    by_members None f = absurd (none_some (sym (ap (λ o. option_map object (option_map (members_without name) o)) f) ∙ told))
      where
        none_some : None ≡ Some e → ⊥
        none_some e = cc
    by_members (Some found) f =
        let same : object (members_without name found) ≡ e =
        some_data (sym (ap (λ o. option_map object (option_map (members_without name) o)) f) ∙ told) in (
          object found,
          reads ∙ ap (option_map object) f,
          ap (without name) (sym same) ∙ ap object (members_twice name found),
          whole_but name found (whole_there_read name ms no_members found are tt f) (ap has_float same ∙ whole),
        )

-- a value that is no object is read as it is
pub read_so : (name text : List ℕ) (j old new : json.Json) → read text ≡ of_json j → is_counted name j ≡ true → emptied_value name j ≡ old
    → IsOrderingOf old new → IsReadingWithout name text new
read_so name text j old new reads are same h = by_kind j reads are (ap of_json same ∙ h.reads)
  where
    as_it_is : read text ≡ Some (data_of new) → IsReadingWithout name text new
    as_it_is e = record {
      whole = data_of new;
      reads = e;
      same = refl;
      ordered = h.ordered;
      no_float = h.whole;
      no_float_in_tree = h.whole;
    }

    by_kind : (j : json.Json) → read text ≡ of_json j → is_counted name j ≡ true → of_json (emptied_value name j) ≡ Some (data_of new)
        → IsReadingWithout name text new
    by_kind json.null reads are e = as_it_is (reads ∙ e)
    by_kind (json.boolean b) reads are e = as_it_is (reads ∙ e)
    by_kind (json.number s) reads are e = as_it_is (reads ∙ e)
    by_kind (json.string s) reads are e = as_it_is (reads ∙ e)
    by_kind (json.array js) reads are e = as_it_is (reads ∙ e)
    by_kind (json.object ms) reads are e =
        let o = object_read name ms (data_of new) are h.whole e text reads in
        record {
          whole = o.0;
          reads = o.1;
          same = o.2;
          ordered = h.ordered;
          no_float = o.3;
          no_float_in_tree = h.whole;
        }
