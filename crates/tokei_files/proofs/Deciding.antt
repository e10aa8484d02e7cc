-- Which of the rules decides on a path's language.
use Rattle.std.proofs.Common.{◌≡◌, ℕ, List, [], option_map, unwrap_or, false, cond, Option, Some, None, is_some, Result, Ok, Err, IfOk, ap, sym, ◌∙◌}
use Rattle.std.specs.Borrow.{Bor}
use Rattle.tokei_table.specs.Lookups.{or_else, extension_of, from_file_name}
use Rattle.tokei_table.specs.Row.{Row}
use Rattle.tokei_folders.specs.Tree.{Tree}
use Rattle.tokei_files.specs.Paths.{name_of, language_by_head, language_by_path}

-- the head decides, where it is asked: the name doesn't, and has no extension
head_decides : (t : Tree) (rows : List Row) (path name : List ℕ) (o : Option ℕ)
    → name ≡ name_of path → None ≡ from_file_name rows name → false ≡ is_some (extension_of name)
    → o ≡ language_by_head t rows path → o ≡ language_by_path t rows path
head_decides t rows path name o is by_name none by_head =
    let byname : from_file_name rows (name_of path) ≡ None = ap (from_file_name rows) (sym is) ∙ sym by_name in
    let ext : is_some (extension_of (name_of path)) ≡ false = ap (λ n. is_some (extension_of n)) (sym is) ∙ sym none in
    by_head
    ∙ ap (λ b. cond b None (language_by_head t rows path)) (sym ext)
    ∙ ap (λ p. or_else p (cond (is_some (extension_of (name_of path))) None (language_by_head t rows path))) (sym byname)

-- what the head says is the language
pub told_by_head : {E : Type 0} (t : Tree) (rows : List Row) (path name : List ℕ)
    (r : Result (Option ℕ) E)
    → name ≡ name_of path → None ≡ from_file_name rows name → false ≡ is_some (extension_of name)
    → IfOk r (λ o. o ≡ language_by_head t rows path)
    → IfOk r (λ o. o ≡ language_by_path t rows path)
told_by_head t rows path name (Ok o) is by_name none by_head = head_decides t rows path name o is by_name none by_head
told_by_head t rows path name (Err x) is by_name none by_head = tt

-- the last name, or the empty text where there is none
pub name_or_none : (r : Option (Bor (List ℕ))) (last : Option (List ℕ)) (d found : Bor (List ℕ)) → option_map (λ n. n.now) r ≡ last → d.now ≡ [] → found ≡ unwrap_or r d → found.now ≡ unwrap_or last []
name_or_none None last d found is none given = ap (λ (b : Bor (List ℕ)). b.now) given ∙ none ∙ ap (λ o. unwrap_or o []) is
name_or_none (Some n) last d found is none given = ap (λ (b : Bor (List ℕ)). b.now) given ∙ ap (λ o. unwrap_or o []) is
