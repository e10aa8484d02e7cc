-- The rows of all languages: first those without children, then the others, each group in the order
-- given.
use Rattle.std.specs.Prelude.{ℕ, List, [], ◌∷◌, ◌++◌, ◌==◌, ◌&&◌, Bool, true, false, not, filter, length, if◌then◌else◌}
use Rattle.tokei_languages.specs.Values.{LanguageValue}
use Rattle.tokei_print.specs.ChildrenBlock.{children_block}
use Rattle.tokei_print.specs.FileRows.{listed_files}
use Rattle.tokei_print.specs.LanguageRow.{language_row}
use Rattle.tokei_print.specs.declared.layout.Layout.{Layout}
use Rattle.tokei_print.specs.NameOrder.{in_order}
use Rattle.tokei_print.specs.Rules.{subrow}

-- no line was counted, and no other language is inside
abbrev pub is_empty_language : LanguageValue → Bool
is_empty_language language =
    (language.counts.blanks == 0) && ((language.counts.code == 0)
    && ((language.counts.comments == 0) && (length language.children == 0)))

-- the languages inside are shown
abbrev pub shows_children : Bool → LanguageValue → Bool
shows_children compact language = not compact && not (length language.children == 0)

-- a language of the group whose children are shown, or of the other
abbrev pub is_of_group : Bool → Bool → LanguageValue → Bool
is_of_group compact true language =
    not (is_empty_language language) && shows_children compact language
is_of_group compact false language =
    not (is_empty_language language) && not (shows_children compact language)

-- a language's own row, and those of its children
abbrev pub counts_block : Layout → (ℕ → List ℕ) → Bool → List ℕ → LanguageValue → List ℕ
counts_block layout names compact name language =
    language_row layout language name
    ++ (if shows_children compact language then children_block layout names language else [])

-- the rows of a language's files
abbrev pub files_block : Layout → (ℕ → List ℕ) → Bool → Bool → List ℕ → LanguageValue → List ℕ
files_block layout names compact sorted name language =
    if layout.list_files
    then subrow layout.columns
    ++ listed_files layout names compact language.inaccurate name (in_order sorted language.reports)
    else []

-- what parts a language with more than one row from those above
abbrev pub parting : Layout → Bool → Bool → LanguageValue → List ℕ
parting layout compact first language = if first then []
    else (if shows_children compact language then subrow layout.columns
    else (if layout.list_files then subrow layout.columns else []))

-- all rows of a language
abbrev pub language_block : Layout → (ℕ → List ℕ) → Bool → Bool → Bool → ℕ → LanguageValue → List ℕ
language_block layout names compact sorted first key language =
    parting layout compact first language
    ++ (counts_block layout names compact (names key) language
    ++ files_block layout names compact sorted (names key) language)

-- all rows of the languages, in their order; `first` says whether none stands above them
abbrev pub language_blocks : Layout → (ℕ → List ℕ) → Bool → Bool → Bool → List (ℕ × LanguageValue)
    → List ℕ
language_blocks layout names compact sorted first [] = []
language_blocks layout names compact sorted first (e ∷ es) =
    language_block layout names compact sorted first e.0 e.1
    ++ language_blocks layout names compact sorted false es

-- the languages of a group, in their order
abbrev pub group_of : Bool → Bool → List (ℕ × LanguageValue) → List (ℕ × LanguageValue)
group_of compact with_children languages =
    filter (λ e. is_of_group compact with_children e.1) languages

-- first the languages whose children aren't shown, then the others
abbrev pub results_text : Layout → (ℕ → List ℕ) → Bool → Bool → List (ℕ × LanguageValue) → List ℕ
results_text layout names compact sorted languages =
    let alone = group_of compact false languages in
    language_blocks layout names compact sorted true alone
    ++ language_blocks layout names compact sorted (length alone == 0)
    (group_of compact true languages)
