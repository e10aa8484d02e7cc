-- The texts that a line has to hold to be walked.
use Rattle.std.specs.Prelude.{ℕ, List, [], ◌∷◌, ◌++◌, map, codes}
use Rattle.tokei_table_rules.specs.Families.{family_of}
use Rattle.tokei_table_row.specs.Row.{Pair, Row}
use Rattle.tokei_table_rules.specs.declared.family.Family.{Family}
use Rattle.tokei_table_rules.specs.declared.family.Family.TheVariants.{Plain, Markdown, HtmlLike, Rust, LinguaFranca, Jupyter}

-- The openers of a list of pairs.
abbrev pub starts_of : List Pair → List (List ℕ)
starts_of ps = map (λ p. p.opener) ps

-- A tag with its bracket.
abbrev pub tag_start : List ℕ → List ℕ
tag_start tag = codes "<" ++ tag

-- Each tag with its bracket.
abbrev pub tag_starts : List (List ℕ) → List (List ℕ)
tag_starts tags = map tag_start tags

-- The starts of string literals, of documentation in them and of comments, the member
-- `important_syntax`, and the tags; a language whose kind isn't `html` has no tags.
abbrev pub important_syntax : Row → List (List ℕ)
important_syntax row =
    starts_of row.quotes
    ++ (starts_of row.doc_quotes
    ++ (starts_of row.multi_line_comments
    ++ (starts_of row.nested_comments
    ++ (row.important_syntax
    ++ tag_starts row.contexts))))

-- What opens the children of a family.
abbrev pub child_openers : Family → List (List ℕ)
child_openers Plain = []
child_openers Markdown = codes "```" ∷ []
child_openers HtmlLike = codes "<script" ∷ codes "<style" ∷ codes "<template" ∷ []
child_openers Rust = codes "///" ∷ codes "//!" ∷ []
child_openers LinguaFranca = codes "{=" ∷ []
child_openers Jupyter = []

-- These, the starts of string literals in which a backslash means itself, and what opens children;
-- repeats stay.
abbrev pub openers : Row → List (List ℕ)
openers row = important_syntax row ++
    (starts_of row.verbatim_quotes ++ child_openers (family_of row.key))
