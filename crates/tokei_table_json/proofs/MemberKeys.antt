-- A key has the same meaning as that of the member that it names.
use Rattle.std.proofs.Common.{◌≡◌, ℕ, List, [], Bool, true, false, cond, bytes_eq, codes, refl, sym, ap, ◌∙◌}
use Rattle.std.proofs.lemmas.Slice.Eq.{bytes_eq-Decides}
use Rattle.serde_json.specs.Data.{Data}
use Rattle.tokei_table_json.specs.Filled.{with_member}
use Rattle.tokei_table_json.specs.Escaped.{is_escaped_list, are_escaped_pairs}
use Rattle.tokei_table_json.specs.Layout.{is_text_pair}
use Rattle.tokei_json_tree.specs.Shapes.{is_list, is_text, is_truth_value}
use Rattle.tokei_table_json.specs.MemberEscapes.{keeps_escapes}
use Rattle.tokei_table_json.specs.MemberLayout.{fits}
use Rattle.tokei_table_json.specs.Members.{key_of, member_of, fits_member, member_keeps_escapes}
use Rattle.tokei_table_json.specs.declared.members.Member.{Member}
use Rattle.tokei_table_json.specs.declared.members.Member.TheVariants.{Texts, Pairs, Truth, Name, Kind, Contexts, Other}
use Rattle.tokei_table_json.specs.declared.members.PairList.TheVariants.{MultiLineComments, Quotes, VerbatimQuotes, DocQuotes, NestedComments}
use Rattle.tokei_table_json.specs.declared.members.TextList.TheVariants.{Extensions, LineComment, Env, Filenames, Shebangs, PathSuffixes, Mime, ImportantSyntax}
use Rattle.tokei_table_json.specs.declared.members.TruthValue.TheVariants.{Nested, Literate, Blank}
use Rattle.tokei_table_json.proofs.MembersOnce.{and_true}
use Rattle.tokei_table_row.specs.Row.{Row}

-- one comparison with a name, by its result
at_name : {X : Type 0} (F : List ℕ → X) (name key : List ℕ) (m n : Member) → key_of m ≡ name
    → (bytes_eq key name ≡ false → F key ≡ F (key_of n))
    → (b : Bool) → bytes_eq key name ≡ b → F key ≡ F (key_of (cond b m n))
at_name F name key m n is later true e = ap F ((bytes_eq-Decides key name).0 e ∙ sym is)
at_name F name key m n is later false e = later e

-- one comparison with a name, and what follows where the key is another
by_name : {X : Type 0} (F : List ℕ → X) (name key : List ℕ) (m n : Member) → key_of m ≡ name
    → (bytes_eq key name ≡ false → F key ≡ F (key_of n)) → F key ≡ F (key_of (cond (bytes_eq key name) m n))
by_name F name key m n is later = at_name F name key m n is later (bytes_eq key name) refl

-- what holds where the key is none of the names
abbrev Unknown : List ℕ → Type 0 → Type 0
Unknown key P =
    bytes_eq key (codes "extensions") ≡ false → bytes_eq key (codes "line_comment") ≡ false
    → bytes_eq key (codes "multi_line_comments") ≡ false → bytes_eq key (codes "quotes") ≡ false
    → bytes_eq key (codes "name") ≡ false → bytes_eq key (codes "verbatim_quotes") ≡ false
    → bytes_eq key (codes "nested") ≡ false → bytes_eq key (codes "env") ≡ false
    → bytes_eq key (codes "filenames") ≡ false → bytes_eq key (codes "shebangs") ≡ false
    → bytes_eq key (codes "doc_quotes") ≡ false → bytes_eq key (codes "path_suffixes") ≡ false
    → bytes_eq key (codes "literate") ≡ false → bytes_eq key (codes "mime") ≡ false
    → bytes_eq key (codes "blank") ≡ false → bytes_eq key (codes "kind") ≡ false
    → bytes_eq key (codes "contexts") ≡ false → bytes_eq key (codes "important_syntax") ≡ false
    → bytes_eq key (codes "nested_comments") ≡ false
    → P

-- a function that tells keys apart by these names alone has the same value at the key of the member that a key names
by_member : {X : Type 0} (F : List ℕ → X) (key : List ℕ) → Unknown key (F key ≡ F []) → F key ≡ F (key_of (member_of key))
by_member F key other =
    by_name F (codes "extensions") key _ _ refl (λ e0.
    by_name F (codes "line_comment") key _ _ refl (λ e1.
    by_name F (codes "multi_line_comments") key _ _ refl (λ e2.
    by_name F (codes "quotes") key _ _ refl (λ e3.
    by_name F (codes "name") key _ _ refl (λ e4.
    by_name F (codes "verbatim_quotes") key _ _ refl (λ e5.
    by_name F (codes "nested") key _ _ refl (λ e6.
    by_name F (codes "env") key _ _ refl (λ e7.
    by_name F (codes "filenames") key _ _ refl (λ e8.
    by_name F (codes "shebangs") key _ _ refl (λ e9.
    by_name F (codes "doc_quotes") key _ _ refl (λ e10.
    by_name F (codes "path_suffixes") key _ _ refl (λ e11.
    by_name F (codes "literate") key _ _ refl (λ e12.
    by_name F (codes "mime") key _ _ refl (λ e13.
    by_name F (codes "blank") key _ _ refl (λ e14.
    by_name F (codes "kind") key _ _ refl (λ e15.
    by_name F (codes "contexts") key _ _ refl (λ e16.
    by_name F (codes "important_syntax") key _ _ refl (λ e17.
    by_name F (codes "nested_comments") key _ _ refl (λ e18.
    other e0 e1 e2 e3 e4 e5 e6 e7 e8 e9 e10 e11 e12 e13 e14 e15 e16 e17 e18)))))))))))))))))))

-- so it is with the layout of a member
fits_by_member : (html : Bool) (key : List ℕ) (d : Data) → fits html key d ≡ fits html (key_of (member_of key)) d
fits_by_member html key d =
    by_member (λ k. fits html k d) key
    (λ e0 e1 e2 e3 e4 e5 e6 e7 e8 e9 e10 e11 e12 e13 e14 e15 e16 e17 e18.
    rw (e0, e1, e2, e3, e4, e5, e6, e7, e8, e9, e10, e11, e12, e13, e14, e15, e16, e17, e18))

-- at its own key, a member may have what its kind says
fits_at_key : (html : Bool) (m : Member) (d : Data) → fits html (key_of m) d ≡ fits_member html m d
fits_at_key html (Texts Extensions) d = and_true (is_list is_text d)
fits_at_key html (Texts LineComment) d = and_true (is_list is_text d)
fits_at_key html (Texts Env) d = and_true (is_list is_text d)
fits_at_key html (Texts Filenames) d = and_true (is_list is_text d)
fits_at_key html (Texts Shebangs) d = and_true (is_list is_text d)
fits_at_key html (Texts PathSuffixes) d = and_true (is_list is_text d)
fits_at_key html (Texts Mime) d = and_true (is_list is_text d)
fits_at_key html (Texts ImportantSyntax) d = refl
fits_at_key html (Pairs MultiLineComments) d = and_true (is_list is_text_pair d)
fits_at_key html (Pairs Quotes) d = and_true (is_list is_text_pair d)
fits_at_key html (Pairs VerbatimQuotes) d = and_true (is_list is_text_pair d)
fits_at_key html (Pairs DocQuotes) d = and_true (is_list is_text_pair d)
fits_at_key html (Pairs NestedComments) d = and_true (is_list is_text_pair d)
fits_at_key html (Truth Nested) d = and_true (is_truth_value d)
fits_at_key html (Truth Literate) d = refl
fits_at_key html (Truth Blank) d = refl
fits_at_key html Name d = refl
fits_at_key html Kind d = refl
fits_at_key html Contexts d = refl
fits_at_key html Other d = refl

-- what a member may have, by the key that names it
pub fits_tells : (html : Bool) (key : List ℕ) (d : Data) → fits_member html (member_of key) d ≡ fits html key d
fits_tells html key d = sym (fits_by_member html key d ∙ fits_at_key html (member_of key) d)

-- so it is with the escapes of a member
keeps_by_member : (html : Bool) (key : List ℕ) (d : Data) → keeps_escapes html key d ≡ keeps_escapes html (key_of (member_of key)) d
keeps_by_member html key d =
    by_member (λ k. keeps_escapes html k d) key
    (λ e0 e1 e2 e3 e4 e5 e6 e7 e8 e9 e10 e11 e12 e13 e14 e15 e16 e17 e18.
    rw (e0, e1, e2, e3, e4, e5, e7, e8, e9, e10, e11, e13, e16, e17, e18))

-- at its own key, a member keeps the escapes that its kind says
keeps_at_key : (html : Bool) (m : Member) (d : Data) → keeps_escapes html (key_of m) d ≡ member_keeps_escapes html m d
keeps_at_key html (Texts Extensions) d = and_true (is_escaped_list d)
keeps_at_key html (Texts LineComment) d = and_true (is_escaped_list d)
keeps_at_key html (Texts Env) d = and_true (is_escaped_list d)
keeps_at_key html (Texts Filenames) d = and_true (is_escaped_list d)
keeps_at_key html (Texts Shebangs) d = and_true (is_escaped_list d)
keeps_at_key html (Texts PathSuffixes) d = and_true (is_escaped_list d)
keeps_at_key html (Texts Mime) d = and_true (is_escaped_list d)
keeps_at_key html (Texts ImportantSyntax) d = refl
keeps_at_key html (Pairs MultiLineComments) d = and_true (are_escaped_pairs d)
keeps_at_key html (Pairs Quotes) d = and_true (are_escaped_pairs d)
keeps_at_key html (Pairs VerbatimQuotes) d = and_true (are_escaped_pairs d)
keeps_at_key html (Pairs DocQuotes) d = and_true (are_escaped_pairs d)
keeps_at_key html (Pairs NestedComments) d = and_true (are_escaped_pairs d)
keeps_at_key html (Truth Nested) d = refl
keeps_at_key html (Truth Literate) d = refl
keeps_at_key html (Truth Blank) d = refl
keeps_at_key html Name d = refl
keeps_at_key html Kind d = refl
keeps_at_key html Contexts d = refl
keeps_at_key html Other d = refl

-- the escapes that a member keeps, by the key that names it
pub keeps_tells : (html : Bool) (key : List ℕ) (d : Data) → member_keeps_escapes html (member_of key) d ≡ keeps_escapes html key d
keeps_tells html key d = sym (keeps_by_member html key d ∙ keeps_at_key html (member_of key) d)

-- so it is with the row into which a member is read
filled_by_member : (html : Bool) (key : List ℕ) (d : Data) (row : Row)
    → with_member html key d row ≡ with_member html (key_of (member_of key)) d row
filled_by_member html key d row =
    by_member (λ k. with_member html k d row) key
    (λ e0 e1 e2 e3 e4 e5 e6 e7 e8 e9 e10 e11 e12 e13 e14 e15 e16 e17 e18.
    rw (e0, e1, e2, e3, e4, e5, e6, e7, e8, e9, e10, e11, e12, e13, e14, e15, e16, e17, e18))

-- the row into which the member that the key names is read
pub row_by_key : (html : Bool) (key : List ℕ) (d : Data) (m : Member) (old new : Row) → m ≡ member_of key
    → new ≡ with_member html (key_of m) d old → new ≡ with_member html key d old
row_by_key html key d m old new is e =
    e ∙ ap (λ n. with_member html (key_of n) d old) is ∙ sym (filled_by_member html key d old)
