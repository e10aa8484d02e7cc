-- When the texts of a row that a count looks for are tokens.
use Rattle.std.specs.Prelude.{◌≡◌, ℕ, Bool, true, false, ◌&&◌, List, bytes_eq, codes, if◌then◌else◌}
use Rattle.std.specs.List.{list_all, Any}
use Rattle.tokei_table_row.specs.Row.{Row}
use Rattle.tokei_table_row.specs.Sound.{is_token, is_pair}

-- Each text of the comments and string literals, each of `important_syntax` and each tag is a
-- token.
unfoldable pub has_tokens : Row → Bool
has_tokens row =
    list_all is_token row.line_comment
    && list_all is_pair row.multi_line_comments
    && list_all is_pair row.nested_comments
    && list_all is_pair row.quotes
    && list_all is_pair row.verbatim_quotes
    && list_all is_pair row.doc_quotes
    && list_all is_token row.important_syntax
    && list_all is_token row.contexts

-- Whether the texts of that member are tokens, where it has some that a count looks for.
abbrev pub member_has_tokens : Row → List ℕ → Bool
member_has_tokens row member =
    if bytes_eq member (codes "line_comment") then list_all is_token row.line_comment
    else (if bytes_eq member (codes "multi_line_comments") then list_all is_pair
    row.multi_line_comments
    else (if bytes_eq member (codes "nested_comments") then list_all is_pair row.nested_comments
    else (if bytes_eq member (codes "quotes") then list_all is_pair row.quotes
    else (if bytes_eq member (codes "verbatim_quotes") then list_all is_pair row.verbatim_quotes
    else (if bytes_eq member (codes "doc_quotes") then list_all is_pair row.doc_quotes
    else (if bytes_eq member (codes "important_syntax") then list_all is_token row.important_syntax
    else (if bytes_eq member (codes "contexts") then list_all is_token row.contexts
    else true)))))))

-- A language with that key has a text in that member that is no token.
abbrev pub HasBadToken : List Row → List ℕ → List ℕ → Type 0
HasBadToken rows key member =
    Any (λ r. (r.key ≡ key) × (member_has_tokens r member ≡ false)) rows
