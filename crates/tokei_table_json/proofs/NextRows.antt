-- What is read of a text as its tokens come: the rows of a table.
use Rattle.std.proofs.Common.{◌≡◌, ℕ, ◌+◌, ◌-◌, ◌<◌, List, [], ◌∷◌, ◌++◌, length, Bool, true, false, ◌&&◌, not, cond, bytes_eq, Option, Some, None, IfSome, Bor, Less, codes, refl, sym, ap, ap₂, ◌∙◌, subst, append_assoc, option_and_then, arith}
use Rattle.std.proofs.lemmas.Bool.{and_parts}
use Rattle.std.proofs.lemmas.List.{append-nil}
use Rattle.std.specs.Cmp.Lexicographic.{slice_cmp}
use Rattle.std.specs.List.Sorted.{IsStrictlySortedBy}
use Rattle.std.specs.Ordering.{nat_cmp}
use Rattle.json.specs.Json as json
use Rattle.json.specs.Json.{parse_map, read_key}
use Rattle.json.specs.Lex.{tokens}
use Rattle.json.specs.Token.{Token}
use Rattle.json.proofs.Grammar.{value-begin_object, members_end, members_more}
use Rattle.serde_json.specs.Data as plain_data
use Rattle.serde_json.specs.Data.{Data, boolean, string, array, object, Items, no_items, item, Members, no_members, member}
use Rattle.serde_json.specs.Find.{get, get_member}
use Rattle.serde_json.specs.Read.{of_json}
use Rattle.tokei_json_tree.specs.Orderings.{IsOrderingOf}
use Rattle.tokei_json_tree.specs.TreeData.{data_of, members_data}
use Rattle.tokei_table_json.specs.Escaped.{is_escaped_language, is_escaped_value, is_escaped_list, are_escaped_pairs, are_escaped_languages, is_escaped_table}
use Rattle.tokei_table_json.specs.Escapes.{unescaped_text}
use Rattle.tokei_table_json.specs.Filled.{with_member, put_tags, filled}
use Rattle.tokei_table_json.specs.Layout.{is_text_pair, is_context, is_language, are_languages, is_object_of_languages, is_html_kind, has_layout}
use Rattle.tokei_json_tree.specs.Shapes.{all_items, is_list, is_text, is_truth_value, stands_and}
use Rattle.tokei_table_json.specs.MemberEscapes.{keeps_escapes}
use Rattle.tokei_table_json.specs.MemberLayout.{all_members, fits}
use Rattle.tokei_table_json.specs.Members.{text_list_key, pair_list_key, truth_key, member_of, fits_member, member_keeps_escapes}
use Rattle.tokei_table_json.specs.Next.{IsNext, AreMembersNext, IsTableText}
use Rattle.tokei_table_json.specs.Rows.{row_in, rows_in, rows_at, text_of, texts_of, texts_at, truth_at, pairs_in, pairs_at}
use Rattle.tokei_table_json.specs.declared.members.Member.{Member}
use Rattle.tokei_table_json.specs.declared.members.Member.TheVariants.{Texts, Pairs, Truth, Name, Kind, Contexts, Other}
use Rattle.tokei_table_json.specs.declared.members.PairList.{PairList}
use Rattle.tokei_table_json.specs.declared.members.TextList.{TextList}
use Rattle.tokei_table_json.specs.declared.members.TruthValue.{TruthValue}
use Rattle.tokei_table.specs.KeyOrder.{IsInKeyOrder}
use Rattle.tokei_table_json.proofs.FilledRows.{row_of_members}
use Rattle.tokei_table_json.proofs.KeyOrder.{in_key_order}
use Rattle.tokei_table_json.proofs.MemberKeys.{fits_tells, keeps_tells, row_by_key}
use Rattle.tokei_table_json.proofs.MemberTests.{members_fit, members_keep}
use Rattle.tokei_table_json.proofs.MembersOnce.{AreInOrder, found_here, in_order}
use Rattle.tokei_table_json.proofs.NextMembers.{MembersSoFar, members_next, members_plain, next_member, object_plain}
use Rattle.tokei_table_json.proofs.RowKinds.{kind_tells}
use Rattle.tokei_table_row.specs.NewRow.{new_row}
use Rattle.tokei_table_row.specs.Row.{Pair, Row, is_html}

list_is : (test : Data → Bool) (d : Data) → is_list test d ≡ true → (ds : Items) × (d ≡ array ds)
list_is test plain_data.null e = absurd cc
list_is test (boolean b) e = absurd cc
list_is test (plain_data.number n) e = absurd cc
list_is test (string s) e = absurd cc
list_is test (array ds) e = (ds, refl)
list_is test (object ms) e = absurd cc

-- a list that comes next is read into the row at its key
module _ (key : List ℕ) (row longer : Row) (depth : ℕ) (old new : List Token) where
  pub texts_member : (list : TextList) (its : List (List ℕ)) → Texts list ≡ member_of key
      → ((html : Bool) (ds : Items) → its ≡ texts_of ds → longer ≡ with_member html (text_list_key list) (array ds) row)
      → IsNext (is_list is_text) is_escaped_list (λ d. texts_at (Some d)) depth old new its
      → IsNext (fits true key) (keeps_escapes true key) (λ d. with_member true key d row) depth old new longer
  texts_member list its named put_there h =
      let d = data_of h.value in
      let ds = list_is is_text d h.fits in
      let there = put_there true ds.0 (sym h.made ∙ ap (λ x. texts_at (Some x)) ds.1) ∙ ap (λ x. with_member true (text_list_key list) x row) (sym ds.1) in
      record {
        value = h.value;
        is = h.is;
        plain = h.plain;
        fits = sym (fits_tells true key d) ∙ ap (λ m. fits_member true m d) (sym named) ∙ h.fits;
        escaped = sym (keeps_tells true key d) ∙ ap (λ m. member_keeps_escapes true m d) (sym named) ∙ h.escaped;
        made = sym (row_by_key true key d (Texts list) row longer named there);
      }

  pub pairs_member : (list : PairList) (its : List Pair) → Pairs list ≡ member_of key
      → ((html : Bool) (ds : Items) → its ≡ pairs_in ds → longer ≡ with_member html (pair_list_key list) (array ds) row)
      → IsNext (is_list is_text_pair) are_escaped_pairs (λ d. pairs_at (Some d)) depth old new its
      → IsNext (fits true key) (keeps_escapes true key) (λ d. with_member true key d row) depth old new longer
  pairs_member list its named put_there h =
      let d = data_of h.value in
      let ds = list_is is_text_pair d h.fits in
      let there = put_there true ds.0 (sym h.made ∙ ap (λ x. pairs_at (Some x)) ds.1) ∙ ap (λ x. with_member true (pair_list_key list) x row) (sym ds.1) in
      record {
        value = h.value;
        is = h.is;
        plain = h.plain;
        fits = sym (fits_tells true key d) ∙ ap (λ m. fits_member true m d) (sym named) ∙ h.fits;
        escaped = sym (keeps_tells true key d) ∙ ap (λ m. member_keeps_escapes true m d) (sym named) ∙ h.escaped;
        made = sym (row_by_key true key d (Pairs list) row longer named there);
      }

text_is : (d : Data) → is_text d ≡ true → (t : List ℕ) × (d ≡ string t)
text_is plain_data.null e = absurd cc
text_is (boolean b) e = absurd cc
text_is (plain_data.number n) e = absurd cc
text_is (string t) e = (t, refl)
text_is (array ds) e = absurd cc
text_is (object ms) e = absurd cc

truth_is : (d : Data) → is_truth_value d ≡ true → (b : Bool) × (d ≡ boolean b)
truth_is plain_data.null e = absurd cc
truth_is (boolean b) e = (b, refl)
truth_is (plain_data.number n) e = absurd cc
truth_is (string t) e = absurd cc
truth_is (array ds) e = absurd cc
truth_is (object ms) e = absurd cc

-- a text or a truth value that comes next is read into the row at its key
module _ (key : List ℕ) (row longer : Row) (depth : ℕ) (old new : List Token) where
  pub name_member : (its : List ℕ) → Name ≡ member_of key
      → ((html : Bool) (t : List ℕ) → its ≡ unescaped_text t → longer ≡ with_member html (codes "name") (string t) row)
      → IsNext is_text is_escaped_value text_of depth old new its
      → IsNext (fits true key) (keeps_escapes true key) (λ d. with_member true key d row) depth old new longer
  name_member its named put_there h =
      let d = data_of h.value in
      let t = text_is d h.fits in
      let there = put_there true t.0 (sym h.made ∙ ap text_of t.1) ∙ ap (λ x. with_member true (codes "name") x row) (sym t.1) in
      record {
        value = h.value;
        is = h.is;
        plain = h.plain;
        fits = sym (fits_tells true key d) ∙ ap (λ m. fits_member true m d) (sym named) ∙ h.fits;
        escaped = sym (keeps_tells true key d) ∙ ap (λ m. member_keeps_escapes true m d) (sym named) ∙ h.escaped;
        made = sym (row_by_key true key d Name row longer named there);
      }

  pub truth_member : (truth : TruthValue) (its : Bool) → Truth truth ≡ member_of key
      → ((html : Bool) → longer ≡ with_member html (truth_key truth) (boolean its) row)
      → IsNext is_truth_value (λ d. true) (λ d. truth_at (Some d)) depth old new its
      → IsNext (fits true key) (keeps_escapes true key) (λ d. with_member true key d row) depth old new longer
  truth_member truth its named put_there h =
      let d = data_of h.value in
      let b = truth_is d h.fits in
      let same = sym h.made ∙ ap (λ x. truth_at (Some x)) b.1 in
      let there = put_there true ∙ ap (λ x. with_member true (truth_key truth) (boolean x) row) same ∙ ap (λ x. with_member true (truth_key truth) x row) (sym b.1) in
      record {
        value = h.value;
        is = h.is;
        plain = h.plain;
        fits = sym (fits_tells true key d) ∙ ap (λ m. fits_member true m d) (sym named) ∙ h.fits;
        escaped = sym (keeps_tells true key d) ∙ ap (λ m. member_keeps_escapes true m d) (sym named);
        made = sym (row_by_key true key d (Truth truth) row longer named there);
      }

-- what a language of kind `html` may have, another one may have too
context_weaker : (d : Data) → is_context true d ≡ true → is_context false d ≡ true
context_weaker d e = ap (λ b. b && true) (and_parts _ _ e).0

contexts_weaker : (ds : Items) → all_items (is_context true) ds ≡ true → all_items (is_context false) ds ≡ true
contexts_weaker no_items e = refl
contexts_weaker (item d ds) e =
    let parts = and_parts (is_context true d) (all_items (is_context true) ds) e in
    ap₂ (λ x y. x && y) (context_weaker d parts.0) (contexts_weaker ds parts.1)

list_weaker : (d : Data) → is_list (is_context true) d ≡ true → is_list (is_context false) d ≡ true
list_weaker (array ds) e = contexts_weaker ds e
list_weaker d e = absurd cc

fits_weaker : (html : Bool) (m : Member) (d : Data) → fits_member true m d ≡ true → fits_member html m d ≡ true
fits_weaker true m d e = e
fits_weaker false (Texts list) d e = e
fits_weaker false (Pairs list) d e = e
fits_weaker false (Truth truth) d e = e
fits_weaker false Name d e = e
fits_weaker false Kind d e = e
fits_weaker false Contexts d e = list_weaker d e
fits_weaker false Other d e = e

keeps_weaker : (html : Bool) (m : Member) (d : Data) → member_keeps_escapes true m d ≡ true → member_keeps_escapes html m d ≡ true
keeps_weaker true m d e = e
keeps_weaker false (Texts list) d e = e
keeps_weaker false (Pairs list) d e = e
keeps_weaker false (Truth truth) d e = e
keeps_weaker false Name d e = e
keeps_weaker false Kind d e = e
keeps_weaker false Contexts d e = refl
keeps_weaker false Other d e = e

all_weaker : (p q : List ℕ → Data → Bool) → ((k : List ℕ) (d : Data) → p k d ≡ true → q k d ≡ true) → (ms : Members)
    → all_members p ms ≡ true → all_members q ms ≡ true
all_weaker p q weaker no_members e = refl
all_weaker p q weaker (member k d ms) e =
    let parts = and_parts (p k d) (all_members p ms) e in
    ap₂ (λ x y. x && y) (weaker k d parts.0) (all_weaker p q weaker ms parts.1)

language_fits : (ms : Members) → AreInOrder ms → all_members (fits true) ms ≡ true → is_language (object ms) ≡ true
language_fits ms s e =
    let html = is_html_kind (get_member (codes "kind") ms) in
    sym (members_fit ms s) ∙ all_weaker (fits true) (fits html) (λ k d f. sym (fits_tells html k d) ∙ fits_weaker html (member_of k) d (fits_tells true k d ∙ f)) ms e

language_escaped : (ms : Members) → AreInOrder ms → all_members (keeps_escapes true) ms ≡ true → is_escaped_language (object ms) ≡ true
language_escaped ms s e =
    let html = is_html_kind (get_member (codes "kind") ms) in
    sym (members_keep ms s)
    ∙ all_weaker (keeps_escapes true) (keeps_escapes html) (λ k d f. sym (keeps_tells html k d) ∙ keeps_weaker html (member_of k) d (keeps_tells true k d ∙ f)) ms e

-- a row with other tags
abbrev pub with_tags : List (List ℕ) → Row → Row
with_tags tags row = record {
  key = row.key;
  name = row.name;
  kind = row.kind;
  line_comment = row.line_comment;
  multi_line_comments = row.multi_line_comments;
  nested = row.nested;
  nested_comments = row.nested_comments;
  quotes = row.quotes;
  verbatim_quotes = row.verbatim_quotes;
  doc_quotes = row.doc_quotes;
  literate = row.literate;
  blank = row.blank;
  important_syntax = row.important_syntax;
  extensions = row.extensions;
  filenames = row.filenames;
  path_suffixes = row.path_suffixes;
  mime = row.mime;
  shebangs = row.shebangs;
  env = row.env;
  contexts = tags;
}

abbrev pub untagged : Row → Row
untagged row = with_tags [] row

no_tags : (b : Bool) (d : Data) → [] ≡ cond b (put_tags false [] d) []
no_tags false d = refl
no_tags true (array ds) = refl
no_tags true d = refl

untagged_member : (key : List ℕ) (d : Data) (row : Row) → untagged (with_member true key d row) ≡ with_member false key d (untagged row)
untagged_member key d row = ap (λ tags. with_tags tags (with_member true key d row)) (no_tags (bytes_eq key (codes "contexts")) d)

untagged_filled : (ms : Members) (row : Row) → untagged (filled true ms row) ≡ filled false ms (untagged row)
untagged_filled no_members row = refl
untagged_filled (member k d ms) row = untagged_filled ms (with_member true k d row) ∙ ap (filled false ms) (untagged_member k d row)

-- the row of a language whose tags are dropped where its kind isn't `html`
module _ (key : List ℕ) (ms : Members) (s : AreInOrder ms) (row final : Row) (all : filled true ms (new_row key) ≡ row)
    (tagged : is_html row ≡ true → final ≡ row) (other : is_html row ≡ false → final ≡ untagged row) where
  abbrev html : Bool
  html = is_html_kind (get_member (codes "kind") ms)

  whole : (b : Bool) → html ≡ b → filled b ms (new_row key) ≡ row_in key (object ms)
  whole b e = ap (λ x. filled x ms (new_row key)) (sym e) ∙ row_of_members key ms s

  by_kind : (b : Bool) → html ≡ b → row_in key (object ms) ≡ final
  by_kind true e =
      let same = sym (whole true e) ∙ all in
      same ∙ sym (tagged (ap is_html (sym same) ∙ kind_tells key (object ms) ∙ e))
  by_kind false e =
      let same = sym (whole false e) ∙ sym (untagged_filled ms (new_row key)) ∙ ap untagged all in
      same ∙ sym (other (ap is_html (sym same) ∙ kind_tells key (object ms) ∙ e))

  pub row_of_language : row_in key (object ms) ≡ final
  row_of_language = by_kind html refl

pub language_next : (key : List ℕ) (depth : ℕ) (old first new : List Token) (start row final : Row) → 0 < depth → start ≡ new_row key
    → old ≡ Token.begin_object ∷ first
    → AreMembersNext (fits true) (keeps_escapes true) (λ ms. filled true ms start) (depth - 1) first new row
    → (is_html row ≡ true → final ≡ row) → (is_html row ≡ false → final ≡ untagged row)
    → IsNext is_language is_escaped_language (row_in key) depth old new final
language_next key depth old first new start row final within fresh e h tagged other =
    let ds = members_data h.members in
    let s = in_order h.members h.plain.keys in
    record {
      value = json.object h.members;
      is = ap (json.value depth) e ∙ value-begin_object depth first within ∙ ap (parse_map json.object) h.are;
      plain = object_plain h.members h.plain;
      fits = language_fits ds s h.fit;
      escaped = language_escaped ds s h.escaped;
      made = row_of_language key ds s row final (ap (filled true ds) (sym fresh) ∙ h.made) tagged other;
    }

-- members that are read into a row
abbrev pub MembersRead : ℕ → List Token → List Token → Option (Bor (List ℕ)) → Row → Row → Type 0
MembersRead = MembersSoFar (fits true) (keeps_escapes true) (λ row k d. with_member true k d row) (λ row ms. filled true ms row) (λ row. refl) (λ row k d ms. refl)

pub one_member_read : (depth : ℕ) (first now s r : List Token) (last : Option (Bor (List ℕ))) (k : Bor (List ℕ)) (start row longer : Row)
    → MembersRead depth first now last start row → read_key now ≡ Some (Some k.now, s) → IfSome last (λ l. slice_cmp nat_cmp l.now k.now ≡ Less)
    → IsNext (fits true k.now) (keeps_escapes true k.now) (λ d. with_member true k.now d row) depth s r longer
    → MembersRead depth first r (Some k) start longer
one_member_read = next_member (fits true) (keeps_escapes true) (λ row k d. with_member true k d row) (λ row ms. filled true ms row) (λ row. refl) (λ row k d ms. refl)

pub all_members_read : (depth : ℕ) (first now r : List Token) (last : Option (Bor (List ℕ))) (start row : Row)
    → MembersRead depth first now last start row → read_key now ≡ Some (None, r)
    → AreMembersNext (fits true) (keeps_escapes true) (λ ms. filled true ms start) depth first r row
all_members_read = members_next (fits true) (keeps_escapes true) (λ row k d. with_member true k d row) (λ row ms. filled true ms row) (λ row. refl) (λ row k d ms. refl)

-- languages whose rows are put behind others
abbrev pub behind : List Row → List ℕ → Data → List Row
behind rows k d = rows ++ row_in k d ∷ []

abbrev pub all_behind : List Row → Members → List Row
all_behind rows ms = rows ++ rows_in ms

pub more_behind : (rows : List Row) (k : List ℕ) (d : Data) (ms : Members) → all_behind rows (member k d ms) ≡ all_behind (behind rows k d) ms
more_behind rows k d ms = sym (append_assoc rows (row_in k d ∷ []) (rows_in ms))

abbrev pub RowsRead : ℕ → List Token → List Token → Option (Bor (List ℕ)) → List Row → Type 0
RowsRead depth first now last rows = MembersSoFar (λ k. is_language) (λ k. is_escaped_language) behind all_behind append-nil more_behind depth first now last [] rows

pub one_row_read : (depth : ℕ) (first now s r : List Token) (last : Option (Bor (List ℕ))) (k : Bor (List ℕ)) (rows longer : List Row) (row : Row)
    → RowsRead depth first now last rows → read_key now ≡ Some (Some k.now, s) → IfSome last (λ l. slice_cmp nat_cmp l.now k.now ≡ Less)
    → IsNext is_language is_escaped_language (row_in k.now) depth s r row → longer ≡ rows ++ row ∷ []
    → RowsRead depth first r (Some k) longer
one_row_read depth first now s r last k rows longer row h key less next e =
    next_member (λ k. is_language) (λ k. is_escaped_language) behind all_behind append-nil more_behind depth first now s r last k [] rows longer h key less
    (record {
      value = next.value;
      is = next.is;
      plain = next.plain;
      fits = next.fits;
      escaped = next.escaped;
      made = ap (λ x. rows ++ x ∷ []) next.made ∙ sym e;
    })

pub all_rows_read : (depth : ℕ) (first now r : List Token) (last : Option (Bor (List ℕ))) (rows : List Row)
    → RowsRead depth first now last rows → read_key now ≡ Some (None, r)
    → AreMembersNext (λ k. is_language) (λ k. is_escaped_language) rows_in depth first r rows
all_rows_read depth first now r last rows = members_next (λ k. is_language) (λ k. is_escaped_language) behind all_behind append-nil more_behind depth first now r last [] rows

each_language : (ms : Members) → all_members (λ k. is_language) ms ≡ true → are_languages ms ≡ true
each_language no_members e = refl
each_language (member k d ms) e =
    let parts = and_parts (is_language d) (all_members (λ k. is_language) ms) e in
    ap₂ (λ x y. x && y) parts.0 (each_language ms parts.1)

each_escaped : (ms : Members) → all_members (λ k. is_escaped_language) ms ≡ true → are_escaped_languages ms ≡ true
each_escaped no_members e = refl
each_escaped (member k d ms) e =
    let parts = and_parts (is_escaped_language d) (all_members (λ k. is_escaped_language) ms) e in
    ap₂ (λ x y. x && y) parts.0 (each_escaped ms parts.1)

-- a text of nothing but an object `languages`
module _ (text : List ℕ) (first second last : List Token) (rows : List Row) (opened : tokens text ≡ Token.begin_object ∷ first)
    (named : first ≡ Token.key (codes "languages") ∷ Token.begin_object ∷ second)
    (h : AreMembersNext (λ k. is_language) (λ k. is_escaped_language) rows_in 125 second last rows) (end : last ≡ Token.end_object ∷ []) where
  abbrev languages : json.Members
  languages = h.members

  abbrev only : json.Members
  only = json.member (codes "languages") (json.object languages) json.no_members

  inner : json.value 126 (Token.begin_object ∷ second) ≡ Some (json.object languages, last)
  inner = value-begin_object 126 second (omega arith) ∙ ap (parse_map json.object) h.are

  two_more : length first ≡ 2 + length second
  two_more = omega (arith, ap length named)

  one_left : length last ≡ 1
  one_left = omega (arith, ap length end)

  outer : json.value 127 (tokens text) ≡ Some (json.object only, [])
  outer =
      ap (json.value 127) opened ∙ value-begin_object 127 first (omega arith)
      ∙ ap (parse_map json.object) (members_more (json.value 126) (length first) (codes "languages") first (Token.begin_object ∷ second) last (json.object languages)
      (omega (arith, two_more)) (ap read_key named) inner
      ∙ ap (parse_map (json.member (codes "languages") (json.object languages)))
      (members_end (json.value 126) (length first - 1) last [] (omega (arith, two_more, one_left)) (ap read_key end)))

  plain : IsOrderingOf (json.object only) (json.object only)
  unfolding IsStrictlySortedBy
  plain = object_plain only (members_plain only (object_plain languages h.plain, tt) (tt, tt))

  found : get (codes "languages") (data_of (json.object only)) ≡ Some (object (members_data languages))
  found = found_here (codes "languages") (codes "languages") (object (members_data languages)) no_members refl

  pub table_text : IsTableText text rows
  unfolding has_layout
  table_text = record {
    value = data_of (json.object only);
    reads = ap (λ o. option_and_then of_json (option_and_then (λ p. json.if_last p.0 p.1) o)) outer ∙ plain.reads;
    layout = ap₂ (λ x o. not x && stands_and is_object_of_languages o) plain.whole found ∙ each_language (members_data languages) h.fit;
    escaped = ap is_escaped_table found ∙ each_escaped (members_data languages) h.escaped;
    made = sym (ap rows_at found ∙ h.made);
    ordered = subst IsInKeyOrder h.made (in_key_order (members_data languages) (in_order languages h.plain.keys));
  }
