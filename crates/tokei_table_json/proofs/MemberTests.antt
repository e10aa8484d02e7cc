-- A language's layout and its escapes, asked of one member after the other.
use Rattle.std.proofs.Common.{◌≡◌, Bool, true, false, ◌&&◌, ◌||◌, not, cond, bytes_eq, codes, Option, Some, None, refl, ap, ◌∙◌}
use Rattle.serde_json.specs.Data.{Data, Members, object}
use Rattle.serde_json.specs.Find.{get_member}
use Rattle.tokei_table_json.specs.Escaped.{is_escaped_value, is_escaped_list, are_escaped_pairs, are_escaped_contexts}
use Rattle.tokei_table_json.specs.Escaped.{has_escaped_tokens, has_escaped_finders, has_escaped_traits, is_escaped_language}
use Rattle.tokei_table_json.specs.Layout.{is_text_pair, is_context}
use Rattle.tokei_json_tree.specs.Shapes.{absent_or, is_text, is_truth_value, is_list}
use Rattle.tokei_table_json.specs.Layout.{has_comments, has_literals, has_finders, has_traits, is_language, is_html_kind}
use Rattle.tokei_table_json.specs.MemberEscapes.{keeps_tokens, keeps_finders, keeps_traits, keeps_escapes}
use Rattle.tokei_table_json.specs.MemberLayout.{all_members, fits_comments, fits_literals, fits_finders, fits_traits, fits}
use Rattle.tokei_table_json.proofs.MembersOnce.{AreInOrder, at_key, last_key, all_both}

-- the same tests, joined from the left
regroup3 : (a b c : Bool) → (a && (b && c)) ≡ ((a && b) && c)
regroup3 true b c = refl
regroup3 false b c = refl

regroup4 : (a b c d : Bool) → (a && (b && (c && d))) ≡ (((a && b) && c) && d)
regroup4 true b c d = regroup3 b c d
regroup4 false b c d = refl

regroup5 : (a b c d e : Bool) → (a && (b && (c && (d && e)))) ≡ ((((a && b) && c) && d) && e)
regroup5 true b c d e = regroup4 b c d e
regroup5 false b c d e = refl

regroup6 : (a b c d e f : Bool) → (a && (b && (c && (d && (e && f))))) ≡ (((((a && b) && c) && d) && e) && f)
regroup6 true b c d e f = regroup5 b c d e f
regroup6 false b c d e f = refl

pub comments_fit : (ms : Members) → AreInOrder ms → all_members fits_comments ms
    ≡ has_comments (object ms)
unfolding has_comments
comments_fit ms s =
    at_key (codes "line_comment") (is_list is_text) (λ k d. cond (bytes_eq k (codes "multi_line_comments")) (is_list is_text_pair d)
    (cond (bytes_eq k (codes "nested")) (is_truth_value d) (cond (bytes_eq k (codes "nested_comments")) (is_list is_text_pair d) true)))
    (λ d. refl) ms s
    ∙ ap (λ b. absent_or (is_list is_text) (get_member (codes "line_comment") ms) && b)
    (at_key (codes "multi_line_comments") (is_list is_text_pair)
    (λ k d. cond (bytes_eq k (codes "nested")) (is_truth_value d) (cond (bytes_eq k (codes "nested_comments")) (is_list is_text_pair d) true))
    (λ d. refl) ms s
    ∙ ap (λ b. absent_or (is_list is_text_pair) (get_member (codes "multi_line_comments") ms) && b)
    (at_key (codes "nested") (is_truth_value) (λ k d. cond (bytes_eq k (codes "nested_comments")) (is_list is_text_pair d) true) (λ d. refl) ms
    s
    ∙ ap (λ b. absent_or (is_truth_value) (get_member (codes "nested") ms) && b) (last_key (codes "nested_comments") (is_list is_text_pair) ms s)))
    ∙ regroup4 (absent_or (is_list is_text) (get_member (codes "line_comment") ms))
    (absent_or (is_list is_text_pair) (get_member (codes "multi_line_comments") ms))
    (absent_or (is_truth_value) (get_member (codes "nested") ms))
    (absent_or (is_list is_text_pair) (get_member (codes "nested_comments") ms))

pub literals_fit : (ms : Members) → AreInOrder ms → all_members fits_literals ms
    ≡ has_literals (object ms)
unfolding has_literals
literals_fit ms s =
    at_key (codes "quotes") (is_list is_text_pair) (λ k d. cond (bytes_eq k (codes "verbatim_quotes")) (is_list is_text_pair d)
    (cond (bytes_eq k (codes "doc_quotes")) (is_list is_text_pair d) true)) (λ d. refl) ms s
    ∙ ap (λ b. absent_or (is_list is_text_pair) (get_member (codes "quotes") ms) && b)
    (at_key (codes "verbatim_quotes") (is_list is_text_pair) (λ k d. cond (bytes_eq k (codes "doc_quotes")) (is_list is_text_pair d) true)
    (λ d. refl) ms s
    ∙ ap (λ b. absent_or (is_list is_text_pair) (get_member (codes "verbatim_quotes") ms) && b) (last_key (codes "doc_quotes") (is_list is_text_pair) ms s))
    ∙ regroup3 (absent_or (is_list is_text_pair) (get_member (codes "quotes") ms))
    (absent_or (is_list is_text_pair) (get_member (codes "verbatim_quotes") ms))
    (absent_or (is_list is_text_pair) (get_member (codes "doc_quotes") ms))

pub finders_fit : (ms : Members) → AreInOrder ms → all_members fits_finders ms
    ≡ has_finders (object ms)
unfolding has_finders
finders_fit ms s =
    at_key (codes "extensions") (is_list is_text) (λ k d. cond (bytes_eq k (codes "filenames")) (is_list is_text d)
    (cond (bytes_eq k (codes "path_suffixes")) (is_list is_text d)
    (cond (bytes_eq k (codes "mime")) (is_list is_text d)
    (cond (bytes_eq k (codes "shebangs")) (is_list is_text d) (cond (bytes_eq k (codes "env")) (is_list is_text d) true))))) (λ d. refl) ms s
    ∙ ap (λ b. absent_or (is_list is_text) (get_member (codes "extensions") ms) && b)
    (at_key (codes "filenames") (is_list is_text) (λ k d. cond (bytes_eq k (codes "path_suffixes")) (is_list is_text d)
    (cond (bytes_eq k (codes "mime")) (is_list is_text d)
    (cond (bytes_eq k (codes "shebangs")) (is_list is_text d) (cond (bytes_eq k (codes "env")) (is_list is_text d) true)))) (λ d. refl) ms s
    ∙ ap (λ b. absent_or (is_list is_text) (get_member (codes "filenames") ms) && b)
    (at_key (codes "path_suffixes") (is_list is_text) (λ k d. cond (bytes_eq k (codes "mime")) (is_list is_text d)
    (cond (bytes_eq k (codes "shebangs")) (is_list is_text d) (cond (bytes_eq k (codes "env")) (is_list is_text d) true))) (λ d. refl) ms s
    ∙ ap (λ b. absent_or (is_list is_text) (get_member (codes "path_suffixes") ms) && b)
    (at_key (codes "mime") (is_list is_text) (λ k d. cond (bytes_eq k (codes "shebangs")) (is_list is_text d)
    (cond (bytes_eq k (codes "env")) (is_list is_text d) true)) (λ d. refl) ms s
    ∙ ap (λ b. absent_or (is_list is_text) (get_member (codes "mime") ms) && b)
    (at_key (codes "shebangs") (is_list is_text) (λ k d. cond (bytes_eq k (codes "env")) (is_list is_text d) true) (λ d. refl) ms s
    ∙ ap (λ b. absent_or (is_list is_text) (get_member (codes "shebangs") ms) && b) (last_key (codes "env") (is_list is_text) ms s)))))
    ∙ regroup6 (absent_or (is_list is_text) (get_member (codes "extensions") ms))
    (absent_or (is_list is_text) (get_member (codes "filenames") ms))
    (absent_or (is_list is_text) (get_member (codes "path_suffixes") ms))
    (absent_or (is_list is_text) (get_member (codes "mime") ms))
    (absent_or (is_list is_text) (get_member (codes "shebangs") ms))
    (absent_or (is_list is_text) (get_member (codes "env") ms))

pub traits_fit : (ms : Members) → AreInOrder ms → all_members (fits_traits (is_html_kind (get_member (codes "kind") ms))) ms
    ≡ has_traits (object ms)
unfolding has_traits
traits_fit ms s =
    let html = is_html_kind (get_member (codes "kind") ms) in
    at_key (codes "name") (is_text) (λ k d. cond (bytes_eq k (codes "kind")) (is_text d)
    (cond (bytes_eq k (codes "literate")) (is_truth_value d)
    (cond (bytes_eq k (codes "blank")) (is_truth_value d)
    (cond (bytes_eq k (codes "important_syntax")) (is_list is_text d)
    (cond (bytes_eq k (codes "contexts")) (is_list (is_context html) d) true))))) (λ d. refl) ms s
    ∙ ap (λ b. absent_or (is_text) (get_member (codes "name") ms) && b)
    (at_key (codes "kind") (is_text) (λ k d. cond (bytes_eq k (codes "literate")) (is_truth_value d)
    (cond (bytes_eq k (codes "blank")) (is_truth_value d)
    (cond (bytes_eq k (codes "important_syntax")) (is_list is_text d)
    (cond (bytes_eq k (codes "contexts")) (is_list (is_context html) d) true)))) (λ d. refl) ms s
    ∙ ap (λ b. absent_or (is_text) (get_member (codes "kind") ms) && b)
    (at_key (codes "literate") (is_truth_value) (λ k d. cond (bytes_eq k (codes "blank")) (is_truth_value d)
    (cond (bytes_eq k (codes "important_syntax")) (is_list is_text d)
    (cond (bytes_eq k (codes "contexts")) (is_list (is_context html) d) true))) (λ d. refl) ms s
    ∙ ap (λ b. absent_or (is_truth_value) (get_member (codes "literate") ms) && b)
    (at_key (codes "blank") (is_truth_value) (λ k d. cond (bytes_eq k (codes "important_syntax")) (is_list is_text d)
    (cond (bytes_eq k (codes "contexts")) (is_list (is_context html) d) true)) (λ d. refl) ms s
    ∙ ap (λ b. absent_or (is_truth_value) (get_member (codes "blank") ms) && b)
    (at_key (codes "important_syntax") (is_list is_text) (λ k d. cond (bytes_eq k (codes "contexts")) (is_list (is_context html) d) true)
    (λ d. refl) ms s
    ∙ ap (λ b. absent_or (is_list is_text) (get_member (codes "important_syntax") ms) && b) (last_key (codes "contexts") (is_list (is_context html)) ms s)))))
    ∙ regroup6 (absent_or (is_text) (get_member (codes "name") ms))
    (absent_or (is_text) (get_member (codes "kind") ms))
    (absent_or (is_truth_value) (get_member (codes "literate") ms))
    (absent_or (is_truth_value) (get_member (codes "blank") ms))
    (absent_or (is_list is_text) (get_member (codes "important_syntax") ms))
    (absent_or (is_list (is_context html)) (get_member (codes "contexts") ms))

pub members_fit : (ms : Members) → AreInOrder ms
    → all_members (fits (is_html_kind (get_member (codes "kind") ms))) ms
    ≡ is_language (object ms)
members_fit ms s =
    let html = is_html_kind (get_member (codes "kind") ms) in
    all_both fits_comments (λ k d. fits_literals k d && (fits_finders k d && fits_traits html k d)) ms
    ∙ ap (λ b. all_members fits_comments ms && b) (all_both fits_literals (λ k d. fits_finders k d && fits_traits html k d) ms
    ∙ ap (λ b. all_members fits_literals ms && b) (all_both fits_finders (fits_traits html) ms))
    ∙ ap (λ b. b && (all_members fits_literals ms && (all_members fits_finders ms && all_members (fits_traits html) ms)))
    (comments_fit ms s)
    ∙ ap (λ b. has_comments (object ms) && (b && (all_members fits_finders ms && all_members (fits_traits html) ms)))
    (literals_fit ms s)
    ∙ ap (λ b. has_comments (object ms) && (has_literals (object ms) && (b && all_members (fits_traits html) ms)))
    (finders_fit ms s)
    ∙ ap (λ b. has_comments (object ms) && (has_literals (object ms) && (has_finders (object ms) && b))) (traits_fit ms s)
    ∙ regroup4 (has_comments (object ms)) (has_literals (object ms)) (has_finders (object ms)) (has_traits (object ms))

pub tokens_keep : (ms : Members) → AreInOrder ms → all_members keeps_tokens ms
    ≡ has_escaped_tokens (object ms)
unfolding has_escaped_tokens
tokens_keep ms s =
    at_key (codes "line_comment") (is_escaped_list) (λ k d. cond (bytes_eq k (codes "multi_line_comments")) (are_escaped_pairs d)
    (cond (bytes_eq k (codes "nested_comments")) (are_escaped_pairs d)
    (cond (bytes_eq k (codes "quotes")) (are_escaped_pairs d)
    (cond (bytes_eq k (codes "verbatim_quotes")) (are_escaped_pairs d) (cond (bytes_eq k (codes "doc_quotes")) (are_escaped_pairs d) true)))))
    (λ d. refl) ms s
    ∙ ap (λ b. absent_or (is_escaped_list) (get_member (codes "line_comment") ms) && b)
    (at_key (codes "multi_line_comments") (are_escaped_pairs)
    (λ k d. cond (bytes_eq k (codes "nested_comments")) (are_escaped_pairs d)
    (cond (bytes_eq k (codes "quotes")) (are_escaped_pairs d)
    (cond (bytes_eq k (codes "verbatim_quotes")) (are_escaped_pairs d) (cond (bytes_eq k (codes "doc_quotes")) (are_escaped_pairs d) true))))
    (λ d. refl) ms s
    ∙ ap (λ b. absent_or (are_escaped_pairs) (get_member (codes "multi_line_comments") ms) && b)
    (at_key (codes "nested_comments") (are_escaped_pairs)
    (λ k d. cond (bytes_eq k (codes "quotes")) (are_escaped_pairs d)
    (cond (bytes_eq k (codes "verbatim_quotes")) (are_escaped_pairs d) (cond (bytes_eq k (codes "doc_quotes")) (are_escaped_pairs d) true)))
    (λ d. refl) ms s
    ∙ ap (λ b. absent_or (are_escaped_pairs) (get_member (codes "nested_comments") ms) && b)
    (at_key (codes "quotes") (are_escaped_pairs) (λ k d. cond (bytes_eq k (codes "verbatim_quotes")) (are_escaped_pairs d)
    (cond (bytes_eq k (codes "doc_quotes")) (are_escaped_pairs d) true)) (λ d. refl) ms s
    ∙ ap (λ b. absent_or (are_escaped_pairs) (get_member (codes "quotes") ms) && b)
    (at_key (codes "verbatim_quotes") (are_escaped_pairs) (λ k d. cond (bytes_eq k (codes "doc_quotes")) (are_escaped_pairs d) true) (λ d. refl)
    ms s
    ∙ ap (λ b. absent_or (are_escaped_pairs) (get_member (codes "verbatim_quotes") ms) && b) (last_key (codes "doc_quotes") (are_escaped_pairs) ms s)))))
    ∙ regroup6 (absent_or (is_escaped_list) (get_member (codes "line_comment") ms))
    (absent_or (are_escaped_pairs) (get_member (codes "multi_line_comments") ms))
    (absent_or (are_escaped_pairs) (get_member (codes "nested_comments") ms))
    (absent_or (are_escaped_pairs) (get_member (codes "quotes") ms))
    (absent_or (are_escaped_pairs) (get_member (codes "verbatim_quotes") ms))
    (absent_or (are_escaped_pairs) (get_member (codes "doc_quotes") ms))

pub finders_keep : (ms : Members) → AreInOrder ms → all_members keeps_finders ms
    ≡ has_escaped_finders (object ms)
unfolding has_escaped_finders
finders_keep ms s =
    at_key (codes "extensions") (is_escaped_list) (λ k d. cond (bytes_eq k (codes "filenames")) (is_escaped_list d)
    (cond (bytes_eq k (codes "path_suffixes")) (is_escaped_list d)
    (cond (bytes_eq k (codes "mime")) (is_escaped_list d)
    (cond (bytes_eq k (codes "shebangs")) (is_escaped_list d) (cond (bytes_eq k (codes "env")) (is_escaped_list d) true))))) (λ d. refl) ms s
    ∙ ap (λ b. absent_or (is_escaped_list) (get_member (codes "extensions") ms) && b)
    (at_key (codes "filenames") (is_escaped_list) (λ k d. cond (bytes_eq k (codes "path_suffixes")) (is_escaped_list d)
    (cond (bytes_eq k (codes "mime")) (is_escaped_list d)
    (cond (bytes_eq k (codes "shebangs")) (is_escaped_list d) (cond (bytes_eq k (codes "env")) (is_escaped_list d) true)))) (λ d. refl) ms s
    ∙ ap (λ b. absent_or (is_escaped_list) (get_member (codes "filenames") ms) && b)
    (at_key (codes "path_suffixes") (is_escaped_list) (λ k d. cond (bytes_eq k (codes "mime")) (is_escaped_list d)
    (cond (bytes_eq k (codes "shebangs")) (is_escaped_list d) (cond (bytes_eq k (codes "env")) (is_escaped_list d) true))) (λ d. refl) ms s
    ∙ ap (λ b. absent_or (is_escaped_list) (get_member (codes "path_suffixes") ms) && b)
    (at_key (codes "mime") (is_escaped_list) (λ k d. cond (bytes_eq k (codes "shebangs")) (is_escaped_list d)
    (cond (bytes_eq k (codes "env")) (is_escaped_list d) true)) (λ d. refl) ms s
    ∙ ap (λ b. absent_or (is_escaped_list) (get_member (codes "mime") ms) && b)
    (at_key (codes "shebangs") (is_escaped_list) (λ k d. cond (bytes_eq k (codes "env")) (is_escaped_list d) true) (λ d. refl) ms s
    ∙ ap (λ b. absent_or (is_escaped_list) (get_member (codes "shebangs") ms) && b) (last_key (codes "env") (is_escaped_list) ms s)))))
    ∙ regroup6 (absent_or (is_escaped_list) (get_member (codes "extensions") ms))
    (absent_or (is_escaped_list) (get_member (codes "filenames") ms))
    (absent_or (is_escaped_list) (get_member (codes "path_suffixes") ms))
    (absent_or (is_escaped_list) (get_member (codes "mime") ms))
    (absent_or (is_escaped_list) (get_member (codes "shebangs") ms))
    (absent_or (is_escaped_list) (get_member (codes "env") ms))

or_absent : (html : Bool) (o : Option Data)
    → absent_or (λ d. not html || are_escaped_contexts d) o ≡ (not html || absent_or are_escaped_contexts o)
or_absent true None = refl
or_absent true (Some d) = refl
or_absent false None = refl
or_absent false (Some d) = refl

pub traits_keep : (ms : Members) → AreInOrder ms
    → all_members (keeps_traits (is_html_kind (get_member (codes "kind") ms))) ms
    ≡ has_escaped_traits (object ms)
unfolding has_escaped_traits
traits_keep ms s =
    let html = is_html_kind (get_member (codes "kind") ms) in
    at_key (codes "name") is_escaped_value (λ k d. cond (bytes_eq k (codes "important_syntax")) (is_escaped_list d)
    (cond (bytes_eq k (codes "contexts")) (not html || are_escaped_contexts d) true)) (λ d. refl) ms s
    ∙ ap (λ b. absent_or is_escaped_value (get_member (codes "name") ms) && b) (
    at_key (codes "important_syntax") is_escaped_list
    (λ k d. cond (bytes_eq k (codes "contexts")) (not html || are_escaped_contexts d) true) (λ d. refl) ms s
    ∙ ap (λ b. absent_or is_escaped_list (get_member (codes "important_syntax") ms) && b) (
    last_key (codes "contexts") (λ d. not html || are_escaped_contexts d) ms s
    ∙ or_absent html (get_member (codes "contexts") ms)))
    ∙ regroup3 (absent_or is_escaped_value (get_member (codes "name") ms))
    (absent_or is_escaped_list (get_member (codes "important_syntax") ms))
    (not html || absent_or are_escaped_contexts (get_member (codes "contexts") ms))

pub members_keep : (ms : Members) → AreInOrder ms
    → all_members (keeps_escapes (is_html_kind (get_member (codes "kind") ms))) ms
    ≡ is_escaped_language (object ms)
members_keep ms s =
    let html = is_html_kind (get_member (codes "kind") ms) in
    all_both keeps_tokens (λ k d. keeps_finders k d && keeps_traits html k d) ms
    ∙ ap (λ b. all_members keeps_tokens ms && b) (all_both keeps_finders (keeps_traits html) ms)
    ∙ ap (λ b. b && (all_members keeps_finders ms && all_members (keeps_traits html) ms)) (tokens_keep ms s)
    ∙ ap (λ b. has_escaped_tokens (object ms) && (b && all_members (keeps_traits html) ms)) (finders_keep ms s)
    ∙ ap (λ b. has_escaped_tokens (object ms) && (has_escaped_finders (object ms) && b)) (traits_keep ms s)
    ∙ regroup3 (has_escaped_tokens (object ms)) (has_escaped_finders (object ms)) (has_escaped_traits (object ms))
