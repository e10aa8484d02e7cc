-- The members of a language, and what each of them may hold.
use Rattle.std.specs.Prelude.{ℕ, Bool, true, ◌||◌, not, if◌then◌else◌, List, [], bytes_eq, codes}
use Rattle.serde_json.specs.Data.{Data}
use Rattle.tokei_table_json.specs.Escaped.{is_escaped_value, is_escaped_list, are_escaped_pairs}
use Rattle.tokei_table_json.specs.Escaped.{are_escaped_contexts}
use Rattle.tokei_table_json.specs.Layout.{is_text_pair}
use Rattle.tokei_json_tree.specs.Shapes.{is_text, is_truth_value, is_list}
use Rattle.tokei_table_json.specs.Layout.{is_context}
use Rattle.tokei_table_json.specs.declared.members.TextList.{TextList}
use Rattle.tokei_table_json.specs.declared.members.TextList.TheVariants.{Extensions, LineComment}
use Rattle.tokei_table_json.specs.declared.members.TextList.TheVariants.{Env, Filenames, Shebangs}
use Rattle.tokei_table_json.specs.declared.members.TextList.TheVariants.{PathSuffixes, Mime}
use Rattle.tokei_table_json.specs.declared.members.TextList.TheVariants.{ImportantSyntax}
use Rattle.tokei_table_json.specs.declared.members.PairList.{PairList}
use Rattle.tokei_table_json.specs.declared.members.PairList.TheVariants.{MultiLineComments, Quotes}
use Rattle.tokei_table_json.specs.declared.members.PairList.TheVariants.{VerbatimQuotes, DocQuotes}
use Rattle.tokei_table_json.specs.declared.members.PairList.TheVariants.{NestedComments}
use Rattle.tokei_table_json.specs.declared.members.TruthValue.{TruthValue}
use Rattle.tokei_table_json.specs.declared.members.TruthValue.TheVariants.{Nested, Literate, Blank}
use Rattle.tokei_table_json.specs.declared.members.Member.{Member}
use Rattle.tokei_table_json.specs.declared.members.Member.TheVariants.{Texts, Pairs, Truth, Name}
use Rattle.tokei_table_json.specs.declared.members.Member.TheVariants.{Kind, Contexts, Other}

-- The key of a member that is a list of texts.
abbrev pub text_list_key : TextList → List ℕ
text_list_key Extensions = codes "extensions"
text_list_key LineComment = codes "line_comment"
text_list_key Env = codes "env"
text_list_key Filenames = codes "filenames"
text_list_key Shebangs = codes "shebangs"
text_list_key PathSuffixes = codes "path_suffixes"
text_list_key Mime = codes "mime"
text_list_key ImportantSyntax = codes "important_syntax"

-- The key of a member that is a list of pairs.
abbrev pub pair_list_key : PairList → List ℕ
pair_list_key MultiLineComments = codes "multi_line_comments"
pair_list_key Quotes = codes "quotes"
pair_list_key VerbatimQuotes = codes "verbatim_quotes"
pair_list_key DocQuotes = codes "doc_quotes"
pair_list_key NestedComments = codes "nested_comments"

-- The key of a member that is a truth value.
abbrev pub truth_key : TruthValue → List ℕ
truth_key Nested = codes "nested"
truth_key Literate = codes "literate"
truth_key Blank = codes "blank"

-- The key of a member; the empty key stands for one that is passed over.
abbrev pub key_of : Member → List ℕ
key_of (Texts list) = text_list_key list
key_of (Pairs list) = pair_list_key list
key_of (Truth truth) = truth_key truth
key_of Name = codes "name"
key_of Kind = codes "kind"
key_of Contexts = codes "contexts"
key_of Other = []

-- Which of the four rarest members the key names, if any.
abbrev pub rare_member : List ℕ → Member
rare_member key =
    if bytes_eq key (codes "kind") then Kind
    else (if bytes_eq key (codes "contexts") then Contexts
    else (if bytes_eq key (codes "important_syntax") then Texts ImportantSyntax
    else (if bytes_eq key (codes "nested_comments") then Pairs NestedComments
    else Other)))

-- Which of the nine least common members the key names, if any.
abbrev pub uncommon_member : List ℕ → Member
uncommon_member key =
    if bytes_eq key (codes "doc_quotes") then Pairs DocQuotes
    else (if bytes_eq key (codes "path_suffixes") then Texts PathSuffixes
    else (if bytes_eq key (codes "literate") then Truth Literate
    else (if bytes_eq key (codes "mime") then Texts Mime
    else (if bytes_eq key (codes "blank") then Truth Blank
    else rare_member key))))

-- Which of the fourteen less common members the key names, if any.
abbrev pub less_common_member : List ℕ → Member
less_common_member key =
    if bytes_eq key (codes "verbatim_quotes") then Pairs VerbatimQuotes
    else (if bytes_eq key (codes "nested") then Truth Nested
    else (if bytes_eq key (codes "env") then Texts Env
    else (if bytes_eq key (codes "filenames") then Texts Filenames
    else (if bytes_eq key (codes "shebangs") then Texts Shebangs
    else uncommon_member key))))

-- The member that the key names. The more languages have a member, the sooner it is looked for.
abbrev pub member_of : List ℕ → Member
member_of key =
    if bytes_eq key (codes "extensions") then Texts Extensions
    else (if bytes_eq key (codes "line_comment") then Texts LineComment
    else (if bytes_eq key (codes "multi_line_comments") then Pairs MultiLineComments
    else (if bytes_eq key (codes "quotes") then Pairs Quotes
    else (if bytes_eq key (codes "name") then Name
    else less_common_member key))))

-- Whether a member may have the value in a language, which is of kind `html` or not.
abbrev pub fits_member : Bool → Member → Data → Bool
fits_member html (Texts list) value = is_list is_text value
fits_member html (Pairs list) value = is_list is_text_pair value
fits_member html (Truth truth) value = is_truth_value value
fits_member html Name value = is_text value
fits_member html Kind value = is_text value
fits_member html Contexts value = is_list (is_context html) value
fits_member html Other value = true

-- Whether a member has but the known escapes; the tags are looked at in a language of kind `html`
-- alone.
abbrev pub member_keeps_escapes : Bool → Member → Data → Bool
member_keeps_escapes html (Texts list) value = is_escaped_list value
member_keeps_escapes html (Pairs list) value = are_escaped_pairs value
member_keeps_escapes html (Truth truth) value = true
member_keeps_escapes html Name value = is_escaped_value value
member_keeps_escapes html Kind value = true
member_keeps_escapes html Contexts value = not html || are_escaped_contexts value
member_keeps_escapes html Other value = true
