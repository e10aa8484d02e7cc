-- Sound tokens: those with which a text can be read line by line.
use Rattle.std.specs.Prelude.{◌≡◌, ℕ, Bool, true, false, ◌&&◌, ◌==◌, not, List, [], ◌∷◌}
use Rattle.std.specs.List.{list_all}
use Rattle.tokei_table_row.specs.Bytes.{all_blank, newline}
use Rattle.tokei_table_row.specs.Row.{Pair, Row}

-- Whether no byte is a newline.
abbrev pub no_newline : List ℕ → Bool
no_newline [] = true
no_newline (b ∷ t) = not (b == newline) && no_newline t

-- A token is neither empty nor all blank, and holds no newline.
abbrev pub is_token : List ℕ → Bool
is_token [] = false
is_token (b ∷ t) = no_newline (b ∷ t) && not (all_blank (b ∷ t))

-- Both texts of a pair are tokens.
abbrev pub is_pair : Pair → Bool
is_pair pair = is_token pair.opener && is_token pair.closer

-- Each text of the row's comments and string literals is a token.
pub record IsSound (row : Row) : Type 0 where
  pub line_comment : list_all is_token row.line_comment ≡ true
  pub multi_line_comments : list_all is_pair row.multi_line_comments ≡ true
  pub nested_comments : list_all is_pair row.nested_comments ≡ true
  pub quotes : list_all is_pair row.quotes ≡ true
  pub verbatim_quotes : list_all is_pair row.verbatim_quotes ≡ true
  pub doc_quotes : list_all is_pair row.doc_quotes ≡ true
