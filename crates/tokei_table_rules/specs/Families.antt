-- The families of languages with children, by key, and which languages a family needs.
use Rattle.std.specs.Prelude.{ℕ, Bool, ◌||◌, List, [], ◌∷◌, codes, bytes_eq, if◌then◌else◌, unwrap_or}
use Rattle.tokei_table_row.specs.Row.{Row}
use Rattle.tokei_table_row.specs.FirstRows.{first_where, has_name}
use Rattle.tokei_table_rules.specs.declared.family.Family.{Family}
use Rattle.tokei_table_rules.specs.declared.family.Family.TheVariants.{Plain, Markdown, HtmlLike, Rust, LinguaFranca, Jupyter}

-- The keys of the languages with scripts, styles and templates.
abbrev pub is_html_like : List ℕ → Bool
is_html_like key =
    bytes_eq key (codes "Html")
    || bytes_eq key (codes "RubyHtml")
    || bytes_eq key (codes "Svelte")
    || bytes_eq key (codes "Vue")
    || bytes_eq key (codes "GlimmerJs")
    || bytes_eq key (codes "GlimmerTs")

-- The family of the language of that key.
abbrev pub family_of : List ℕ → Family
family_of key =
    if bytes_eq key (codes "Markdown") || bytes_eq key (codes "UnrealDeveloperMarkdown")
    then Markdown
    else (if is_html_like key then HtmlLike
    else (if bytes_eq key (codes "Rust") then Rust
    else (if bytes_eq key (codes "LinguaFranca") then LinguaFranca
    else (if bytes_eq key (codes "Jupyter") then Jupyter
    else Plain))))

-- The keys that a table with a language of the family has to have: those that its children fall
-- back on.
abbrev pub needed_keys : Family → List (List ℕ)
needed_keys Plain = []
needed_keys Markdown = []
needed_keys HtmlLike = codes "JavaScript" ∷ codes "Css" ∷ codes "Html" ∷ []
needed_keys Rust = codes "Markdown" ∷ []
needed_keys LinguaFranca = codes "C" ∷ []
needed_keys Jupyter = codes "Markdown" ∷ codes "Python" ∷ []

-- The language that a child falls back on. A well-formed table has it under that key, and no other
-- language of that name; without it the parent's own language stands.
abbrev pub fallback : List Row → ℕ → List ℕ → ℕ
fallback rows parent key = unwrap_or (first_where (has_name key) rows) parent
