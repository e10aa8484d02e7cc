-- A tree whose objects have their keys in any order stands for what `serde_json` reads, and the last member of a name is the one that is found.
use Rattle.std.proofs.Common.{◌≡◌, ℕ, List, Bool, true, false, cond, ◌&&◌, Option, None, Some, is_some, option_map, option_and_then, bytes_eq, true≢false, Bor, refl, sym, ap, ◌∙◌}
use Rattle.std.proofs.lemmas.Slice.Eq.{bytes_eq-Decides}
use Rattle.json.specs.Find.{later_or, get as get_in_tree, get_member as get_member_in_tree}
use Rattle.json.specs.Json as json
use Rattle.json.specs.Value.{value_view}
use Rattle.json.specs.declared.value.Value.{Value}
use Rattle.serde_json.specs.Data.{Num, Data, number, array, object, Items, item, Members, no_members, put}
use Rattle.serde_json.specs.Find.{get, get_member}
use Rattle.serde_json.specs.Read.{number_of, of_json, of_items, of_members}
use Rattle.serde_json.proofs.Views.{get_member-put, get_member-put_other}
use Rattle.tokei_json_tree.specs.TreeData.{number_data}
use Rattle.tokei_json_tree.specs.Unordered.{unordered_data, unordered_items, unordered_members, is_in_range, are_items_in_range, are_members_in_range}

-- what is there where the test holds
abbrev when : {X : Type 0} → Bool → X → Option X
when b x = cond b (Some x) None

number_when : (o : Option Num) → option_map number o ≡ when (is_some o) (number_data o)
number_when None = refl
number_when (Some n) = refl

mapped_when : {X Y : Type 0} (f : X → Y) (b : Bool) (x : X) → option_map f (when b x) ≡ when b (f x)
mapped_when f true x = refl
mapped_when f false x = refl

item_when : (a b : Bool) (d : Data) (ds : Items) → option_and_then (λ x. option_map (item x) (when b ds)) (when a d) ≡ when (a && b) (item d ds)
item_when true true d ds = refl
item_when true false d ds = refl
item_when false b d ds = refl

member_when : (a b : Bool) (d : Data) (f : Data → Option Members) (ms : Members) → f d ≡ when b ms → option_and_then f (when a d) ≡ when (a && b) ms
member_when true b d f ms h = h
member_when false b d f ms h = refl

mutual
  pub read_when : (j : json.Json) → of_json j ≡ when (is_in_range j) (unordered_data j)
  read_when json.null = refl
  read_when (json.boolean b) = refl
  read_when (json.number s) = number_when (number_of s)
  read_when (json.string s) = refl
  read_when (json.array js) = ap (option_map array) (items_when js) ∙ mapped_when array (are_items_in_range js) (unordered_items js)
  read_when (json.object ms) =
      ap (option_map object) (members_when ms no_members) ∙ mapped_when object (are_members_in_range ms) (unordered_members ms no_members)

  items_when : (js : json.Items) → of_items js ≡ when (are_items_in_range js) (unordered_items js)
  items_when json.no_items = refl
  items_when (json.item j js) =
      ap (option_and_then (λ d. option_map (item d) (of_items js))) (read_when j)
      ∙ ap (λ o. option_and_then (λ d. option_map (item d) o) (when (is_in_range j) (unordered_data j))) (items_when js)
      ∙ item_when (is_in_range j) (are_items_in_range js) (unordered_data j) (unordered_items js)

  members_when : (ms : json.Members) (found : Members) → of_members ms found ≡ when (are_members_in_range ms) (unordered_members ms found)
  members_when json.no_members found = refl
  members_when (json.member k j ms) found =
      ap (option_and_then (λ d. of_members ms (put k d found))) (read_when j)
      ∙ member_when (is_in_range j) (are_members_in_range ms) (unordered_data j) (λ d. of_members ms (put k d found))
      (unordered_members ms (put k (unordered_data j) found)) (members_when ms (put k (unordered_data j) found))

pub in_range : (j : json.Json) (o : Option Data) → o ≡ of_json j → is_in_range j ≡ true → o ≡ Some (unordered_data j)
in_range j o same e = same ∙ read_when j ∙ ap (λ b. when b (unordered_data j)) e

pub out_of_range : (j : json.Json) (o : Option Data) → o ≡ of_json j → is_in_range j ≡ false → o ≡ None
out_of_range j o same e = same ∙ read_when j ∙ ap (λ b. when b (unordered_data j)) e

-- a later member of the name, else an earlier one
abbrev later : Option Data → Option Data → Option Data
later None earlier = earlier
later (Some d) earlier = Some d

-- the member that was put last, where it has the name
put_found : (name k : List ℕ) (d : Data) (ms : Members) (b : Bool) → bytes_eq k name ≡ b
    → get_member name (put k d ms) ≡ cond b (Some d) (get_member name ms)
put_found name k d ms true e =
    let same : k ≡ name = (bytes_eq-Decides k name).0 e in
    ap (λ x. get_member x (put k d ms)) (sym same) ∙ get_member-put k d ms
put_found name k d ms false e =
    get_member-put_other name k d ms (λ same. true≢false (sym ((bytes_eq-Decides k name).1 (sym same)) ∙ e))

chosen : (o : Option json.Json) (b : Bool) (j : json.Json) (found : Option Data)
    → later (option_map unordered_data o) (cond b (Some (unordered_data j)) found)
    ≡ later (option_map unordered_data (later_or o (cond b (Some j) None))) found
chosen None true j found = refl
chosen None false j found = refl
chosen (Some x) b j found = refl

members_found : (name : List ℕ) (ms : json.Members) (found : Members)
    → get_member name (unordered_members ms found) ≡ later (option_map unordered_data (get_member_in_tree name ms)) (get_member name found)
members_found name json.no_members found = refl
members_found name (json.member k j ms) found =
    members_found name ms (put k (unordered_data j) found)
    ∙ ap (later (option_map unordered_data (get_member_in_tree name ms))) (put_found name k (unordered_data j) found (bytes_eq k name) refl)
    ∙ chosen (get_member_in_tree name ms) (bytes_eq k name) j (get_member name found)

alone : (o : Option Data) → later o None ≡ o
alone None = refl
alone (Some d) = refl

pub last_found : (name : List ℕ) (j : json.Json) → get name (unordered_data j) ≡ option_map unordered_data (get_in_tree name j)
last_found name json.null = refl
last_found name (json.boolean b) = refl
last_found name (json.number s) = number_has_none name (number_of s)
  where
    number_has_none : (name : List ℕ) (o : Option Num) → get name (number_data o) ≡ None
    number_has_none name None = refl
    number_has_none name (Some n) = refl
last_found name (json.string s) = refl
last_found name (json.array js) = refl
last_found name (json.object ms) = members_found name ms no_members ∙ alone (option_map unordered_data (get_member_in_tree name ms))

pub seen_in : {A : Type 0} (o : Option (Bor (Value A))) → option_map (λ v. unordered_data (value_view v.now)) o ≡ option_map unordered_data (option_map (λ v. value_view v.now) o)
seen_in None = refl
seen_in (Some v) = refl
