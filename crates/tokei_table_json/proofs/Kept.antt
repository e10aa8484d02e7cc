-- A member whose value is of another kind than its own leaves a row as it is; what is no object has a new row.
use Rattle.std.proofs.Common.{◌≡◌, ◌⊎◌, inl, inr, ℕ, List, Bool, true, false, cond, refl, sym, ap, ◌∙◌, rules, Vec}
use Rattle.std.specs.Borrow.{Bor}
use Rattle.json.specs.Value.{value_view}
use Rattle.json.specs.declared.value.Value.{Value, Array, Object, String, Bool as Truth_value, the_lemmas}
use Rattle.serde_json.specs.Data.{Data, null, boolean, number, string, array, object, Items}
use Rattle.tokei_json_tree.specs.TreeData.{data_of}
use Rattle.tokei_table_json.specs.Filled.{with_member}
use Rattle.tokei_table_json.specs.Members.{key_of}
use Rattle.tokei_table_json.specs.declared.members.Member.{Member}
use Rattle.tokei_table_json.specs.declared.members.Member.TheVariants.{Texts, Pairs, Truth, Name, Kind, Contexts, Other}
use Rattle.tokei_table_json.specs.declared.members.PairList.TheVariants.{MultiLineComments, Quotes, VerbatimQuotes, DocQuotes, NestedComments}
use Rattle.tokei_table_json.specs.declared.members.TextList.TheVariants.{Extensions, LineComment, Env, Filenames, Shebangs, PathSuffixes, Mime, ImportantSyntax}
use Rattle.tokei_table_json.specs.declared.members.TruthValue.{TruthValue}
use Rattle.tokei_table_json.specs.declared.members.TruthValue.TheVariants.{Nested, Literate, Blank}
use Rattle.tokei_table_json.specs.Rows.{row_in}
use Rattle.tokei_table_row.specs.NewRow.{new_row}
use Rattle.tokei_table_row.specs.Row.{Row}

-- a choice between the same is that
cond_same : {X : Type 0} (b : Bool) (x : X) → cond b x x ≡ x
cond_same true x = refl
cond_same false x = refl

-- neither a truth value nor a text nor a list
abbrev IsOther : Data → Type 0
IsOther (boolean b) = ⊥
IsOther (string t) = ⊥
IsOther (array ds) = ⊥
IsOther d = Unit

-- such a value leaves the row as it is
pub other_kept : (html : Bool) (key : List ℕ) (d : Data) (row : Row) → IsOther d → row ≡ with_member html key d row
other_kept html key null row h = simp cond_same
other_kept html key (boolean b) row h = absurd h
other_kept html key (number n) row h = simp cond_same
other_kept html key (string t) row h = absurd h
other_kept html key (array ds) row h = absurd h
other_kept html key (object ms) row h = simp cond_same

-- so a tree is none of them that is none of these variants
pub is_other : {A : Type 0} (v : Value A) → ((b : Bool) → v ≡ Truth_value b → ⊥) → ((t : Bor (List ℕ)) → v ≡ String t → ⊥)
    → ((vs : Vec (Value A) A) → v ≡ Array vs → ⊥) → IsOther (data_of (value_view v))
is_other v b t vs = search (rules, the_lemmas)

-- a list leaves the row as it is, at a member that holds a truth value
truth_keeps : (html : Bool) (truth : TruthValue) (ds : Items) (row : Row) → row ≡ with_member html (key_of (Truth truth)) (array ds) row
truth_keeps html Nested ds row = refl
truth_keeps html Literate ds row = refl
truth_keeps html Blank ds row = refl

-- a list leaves the row as it is, at a member that holds none
pub list_kept : (html : Bool) (m : Member) (ds : Items) (row : Row)
    → ((truth : TruthValue) × (m ≡ Truth truth)) ⊎ ((m ≡ Name) ⊎ ((m ≡ Kind) ⊎ (m ≡ Other)))
    → row ≡ with_member html (key_of m) (array ds) row
list_kept html m ds row (inl w) = truth_keeps html w.0 ds row ∙ ap (λ n. with_member html (key_of n) (array ds) row) (sym w.1)
list_kept html m ds row (inr (inl e)) = ap (λ n. with_member html (key_of n) (array ds) row) (sym e)
list_kept html m ds row (inr (inr (inl e))) = ap (λ n. with_member html (key_of n) (array ds) row) (sym e)
list_kept html m ds row (inr (inr (inr e))) = ap (λ n. with_member html (key_of n) (array ds) row) (sym e)

-- no object
abbrev IsNoObject : Data → Type 0
IsNoObject (object ms) = ⊥
IsNoObject d = Unit

-- so a tree is none that is not that variant
pub is_no_object : {A : Type 0} (v : Value A) → ((ms : Vec (Bor (List ℕ) × Value A) A) → v ≡ Object ms → ⊥) → IsNoObject (data_of (value_view v))
is_no_object v ms = search (rules, the_lemmas)

-- what is no object stands for a new row
pub new_kept : (key : List ℕ) (d : Data) → IsNoObject d → new_row key ≡ row_in key d
unfolding row_in
new_kept key null h = refl
new_kept key (boolean b) h = refl
new_kept key (number n) h = refl
new_kept key (string t) h = refl
new_kept key (array ds) h = refl
new_kept key (object ms) h = absurd h

-- a text leaves the row as it is, at a member that is neither the name nor the kind
pub text_kept : (html : Bool) (m : Member) (t : List ℕ) (row : Row) → (m ≡ Name → ⊥) → (m ≡ Kind → ⊥)
    → row ≡ with_member html (key_of m) (string t) row
text_kept html (Texts Extensions) t row n k = refl
text_kept html (Texts LineComment) t row n k = refl
text_kept html (Texts Env) t row n k = refl
text_kept html (Texts Filenames) t row n k = refl
text_kept html (Texts Shebangs) t row n k = refl
text_kept html (Texts PathSuffixes) t row n k = refl
text_kept html (Texts Mime) t row n k = refl
text_kept html (Texts ImportantSyntax) t row n k = refl
text_kept html (Pairs MultiLineComments) t row n k = refl
text_kept html (Pairs Quotes) t row n k = refl
text_kept html (Pairs VerbatimQuotes) t row n k = refl
text_kept html (Pairs DocQuotes) t row n k = refl
text_kept html (Pairs NestedComments) t row n k = refl
text_kept html (Truth Nested) t row n k = refl
text_kept html (Truth Literate) t row n k = refl
text_kept html (Truth Blank) t row n k = refl
text_kept html Name t row n k = absurd (n refl)
text_kept html Kind t row n k = absurd (k refl)
text_kept html Contexts t row n k = refl
text_kept html Other t row n k = refl

-- a truth value leaves the row as it is, at a member that holds none
pub truth_kept : (html : Bool) (m : Member) (b : Bool) (row : Row) → ((truth : TruthValue) → m ≡ Truth truth → ⊥)
    → row ≡ with_member html (key_of m) (boolean b) row
truth_kept html (Texts Extensions) b row h = refl
truth_kept html (Texts LineComment) b row h = refl
truth_kept html (Texts Env) b row h = refl
truth_kept html (Texts Filenames) b row h = refl
truth_kept html (Texts Shebangs) b row h = refl
truth_kept html (Texts PathSuffixes) b row h = refl
truth_kept html (Texts Mime) b row h = refl
truth_kept html (Texts ImportantSyntax) b row h = refl
truth_kept html (Pairs MultiLineComments) b row h = refl
truth_kept html (Pairs Quotes) b row h = refl
truth_kept html (Pairs VerbatimQuotes) b row h = refl
truth_kept html (Pairs DocQuotes) b row h = refl
truth_kept html (Pairs NestedComments) b row h = refl
truth_kept html (Truth truth) b row h = absurd (h truth refl)
truth_kept html Name b row h = refl
truth_kept html Kind b row h = refl
truth_kept html Contexts b row h = refl
truth_kept html Other b row h = refl
