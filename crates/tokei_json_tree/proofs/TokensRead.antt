-- Values that are read token by token: what is read of a list or an object where what is left of it is.
use Rattle.std.proofs.Common.{◌≡◌, ℕ, ◌-◌, ◌<◌, ◌≤◌, List, ◌∷◌, Bool, true, ◌&&◌, length, Some, None, refl, ap, ◌∙◌}
use Rattle.json.specs.Json.{Json, null, boolean, number, string, array, object, Items, no_items, item, Members, no_members, member, Parse, parse_map}
use Rattle.json.specs.Json.{after_end_array, read_key, items, members, value}
use Rattle.json.specs.Token.{Token}
use Rattle.json.proofs.Grammar.{items_end, items_more, members_end, members_more, value_is, value-begin_array, value-begin_object}
use Rattle.tokei_json_tree.specs.Numbers.{numbers_pass}
use Rattle.tokei_json_tree.specs.Tokens.{IsRead, IsPassed}

pub both : (a b : Bool) → a ≡ true → b ≡ true → (a && b) ≡ true
both a b e f = ap (λ x. x && b) e ∙ f

module _ {B : Type 0} (p : Parse Json) (test : Items → Bool) (kept : Items → B) (n : ℕ) (tokens : List Token) where
  -- an item, and those that are left
  pub items_turn : (j : Json) (rest left : List Token) (more : B → B) (made : B) → 0 < n → after_end_array tokens ≡ None → p tokens ≡ Some (j, rest)
      → ((js : Items) → test js ≡ true → test (item j js) ≡ true) → ((js : Items) → kept (item j js) ≡ more (kept js))
      → IsRead (items p (n - 1)) test kept made rest left → IsRead (items p n) test kept (more made) tokens left
  items_turn j rest left more made some going reads passes law h = record {
    whole = item j h.whole;
    reads = items_more p n tokens rest j some going reads ∙ ap (parse_map (item j)) h.reads;
    passes = passes h.whole h.passes;
    made = law h.whole ∙ ap more h.made;
  }

  -- none is left
  pub items_over : (left : List Token) → length tokens ≤ n → after_end_array tokens ≡ Some left → test no_items ≡ true
      → IsRead (items p n) test kept (kept no_items) tokens left
  items_over left enough over passes = record {
    whole = no_items;
    reads = items_end p n tokens left enough over;
    passes = passes;
    made = refl;
  }

module _ {B : Type 0} (p : Parse Json) (test : Members → Bool) (kept : Members → B) (n : ℕ) (tokens : List Token) where
  -- a member, and those that are left
  pub members_turn : (k : List ℕ) (j : Json) (behind rest left : List Token) (more : B → B) (made : B) → 0 < n → read_key tokens ≡ Some (Some k, behind)
      → p behind ≡ Some (j, rest) → ((ms : Members) → test ms ≡ true → test (member k j ms) ≡ true)
      → ((ms : Members) → kept (member k j ms) ≡ more (kept ms))
      → IsRead (members p (n - 1)) test kept made rest left
      → IsRead (members p n) test kept (more made) tokens left
  members_turn k j behind rest left more made some key reads passes law h = record {
    whole = member k j h.whole;
    reads = members_more p n k tokens behind rest j some key reads ∙ ap (parse_map (member k j)) h.reads;
    passes = passes h.whole h.passes;
    made = law h.whole ∙ ap more h.made;
  }

  -- none is left
  pub members_over : (left : List Token) → length tokens ≤ n → read_key tokens ≡ Some (None, left) → test no_members ≡ true
      → IsRead (members p n) test kept (kept no_members) tokens left
  members_over left enough over passes = record {
    whole = no_members;
    reads = members_end p n tokens left enough over;
    passes = passes;
    made = refl;
  }

-- a value of one token
module _ (test : List ℕ → Bool) (depth : ℕ) (tokens rest : List Token) where
  pub string_passed : (s : List ℕ) → tokens ≡ Token.string s ∷ rest → IsPassed (value depth) (numbers_pass test) tokens rest
  string_passed s e =
      record { whole = string s; reads = ap (value depth) e ∙ value_is depth (Token.string s ∷ rest); passes = refl; made = refl }

  pub number_passed : (s : List ℕ) → tokens ≡ Token.number s ∷ rest → test s ≡ true → IsPassed (value depth) (numbers_pass test) tokens rest
  number_passed s e h =
      record { whole = number s; reads = ap (value depth) e ∙ value_is depth (Token.number s ∷ rest); passes = h; made = refl }

  pub boolean_passed : (b : Bool) → tokens ≡ Token.boolean b ∷ rest → IsPassed (value depth) (numbers_pass test) tokens rest
  boolean_passed b e =
      record { whole = boolean b; reads = ap (value depth) e ∙ value_is depth (Token.boolean b ∷ rest); passes = refl; made = refl }

  pub null_passed : tokens ≡ Token.null ∷ rest → IsPassed (value depth) (numbers_pass test) tokens rest
  null_passed e = record { whole = null; reads = ap (value depth) e ∙ value_is depth (Token.null ∷ rest); passes = refl; made = refl }

-- a list or an object, behind the token that opens it
module _ {B C : Type 0} (depth : ℕ) (tokens behind rest : List Token) (some : 0 < depth) (test : Json → Bool) (all : Json → C) (whole_of : B → C) (made : B) where
  pub array_read : (each : Items → Bool) → ((js : Items) → test (array js) ≡ each js) → (kept : Items → B)
      → ((js : Items) → all (array js) ≡ whole_of (kept js)) → tokens ≡ Token.begin_array ∷ behind
      → IsRead (items (value (depth - 1)) (length behind)) each kept made behind rest
      → IsRead (value depth) test all (whole_of made) tokens rest
  array_read each tests kept law e h = record {
    whole = array h.whole;
    reads = ap (value depth) e ∙ value-begin_array depth behind some ∙ ap (parse_map array) h.reads;
    passes = tests h.whole ∙ h.passes;
    made = law h.whole ∙ ap whole_of h.made;
  }

  pub object_read : (each : Members → Bool) → ((ms : Members) → test (object ms) ≡ each ms) → (kept : Members → B)
      → ((ms : Members) → all (object ms) ≡ whole_of (kept ms)) → tokens ≡ Token.begin_object ∷ behind
      → IsRead (members (value (depth - 1)) (length behind)) each kept made behind rest
      → IsRead (value depth) test all (whole_of made) tokens rest
  object_read each tests kept law e h = record {
    whole = object h.whole;
    reads = ap (value depth) e ∙ value-begin_object depth behind some ∙ ap (parse_map object) h.reads;
    passes = tests h.whole ∙ h.passes;
    made = law h.whole ∙ ap whole_of h.made;
  }
