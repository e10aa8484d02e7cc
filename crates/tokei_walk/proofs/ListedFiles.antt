-- A name is listed where something stands there, so the ignore files that aren't listed aren't missed.
use Rattle.std.proofs.Common.{◌≡◌, ℕ, ◌&&◌, ◌||◌, codes, List, [], ◌∷◌, ◌++◌, Bool, true, false, cond, Option, Some, None, is_some, Ok, Err, refl, sym, ap, ◌∙◌}
use Rattle.std.specs.Ordering.{is_eq, ordering_then}
use Rattle.std.specs.declared.cmp.Ordering.{Ordering}
use Rattle.std.specs.declared.cmp.Ordering.TheVariants.{Less, Equal, Greater}
use Rattle.tokei_folders.specs.declared.fs.Entry.{Entry}
use Rattle.tokei_folders.specs.declared.fs.Fault.{Fault}
use Rattle.tokei_folders.specs.declared.fs.Fault.TheVariants.{Refused}
use Rattle.tokei_folders.specs.declared.nodes.Node.{Node}
use Rattle.tokei_folders.specs.Answers.{entries_in, entry_named, only_name, can_list, list_answer}
use Rattle.tokei_folders.specs.Tree.{Names, Tree, names_cmp, node_at}
use Rattle.tokei_walk.specs.declared.levels.Rules.{Rules}
use Rattle.tokei_walk.specs.Levels.{level_at, ignore_file_at, has_git, patterns_at}
use Rattle.tokei_walk.specs.Sought.{lists, listed, level_of}
use Rattle.tokei_walk.proofs.Inside.{name_cmp, inside, entries_inside, node_inside}
use Rattle.tokei_walk.proofs.RuleFiles.{same_level}

then_equal : (o : Ordering) → is_eq (ordering_then o Equal) ≡ is_eq o
then_equal Less = refl
then_equal Equal = refl
then_equal Greater = refl

then_greater : (o : Ordering) → is_eq (ordering_then o Greater) ≡ false
then_greater Less = refl
then_greater Equal = refl
then_greater Greater = refl

either_some : {X : Type 0} (b : Bool) (x : X) (o : Option X) → is_some (cond b (Some x) o) ≡ (b || is_some o)
either_some true x o = refl
either_some false x o = refl

listed_by : (m : List ℕ) (ns : Names) (n : Node) (es : List Entry) (o : Option Node)
    → lists es m ≡ is_some o
    → lists (entry_named (only_name (Some ns)) n es) m
    ≡ is_some (cond (is_eq (names_cmp ns (m ∷ []))) (Some n) o)
listed_by m [] n es o h = h
listed_by m (k ∷ []) n es o h =
    ap (λ (b : Bool). is_eq (name_cmp k m) || b) h ∙ sym (either_some (is_eq (name_cmp k m)) n o) ∙ ap (λ (b : Bool). is_some (cond b (Some n) o)) (sym (then_equal (name_cmp k m)))
listed_by m (k ∷ l ∷ ns) n es o h = h ∙ ap (λ (b : Bool). is_some (cond b (Some n) o)) (sym (then_greater (name_cmp k m)))

listed_top : (m : List ℕ) (t : Tree) → lists (entries_in [] t) m ≡ is_some (node_at t (m ∷ []))
listed_top m [] = refl
listed_top m (e ∷ t) = listed_by m e.names e.node (entries_in [] t) (node_at t (m ∷ [])) (listed_top m t)

-- a folder lists the names at which something stands
pub listed_names : (p : Names) (t : Tree) (m : List ℕ) → lists (entries_in p t) m ≡ is_some (node_at t (p ++ m ∷ []))
listed_names p t m = ap (λ (es : List Entry). lists es m) (entries_inside p t) ∙ listed_top m (inside p t) ∙ ap is_some (node_inside p (m ∷ []) t)

entries_by : (b : Bool) (es fs : List Entry) (x : Fault) → cond b (Ok fs) (Err x) ≡ Ok es → es ≡ fs
entries_by true es fs x e = cc
entries_by false es fs x e = absurd (cc)

-- the entries that are listed are the tree's
pub entries_are : (t : Tree) (p : Names) (es : List Entry) → list_answer t p ≡ Ok es → es ≡ entries_in p t
unfolding list_answer
entries_are t p es e = entries_by (can_list (node_at t p)) es (entries_in p t) Refused e

sought_by : (d b : Bool) (o : Option Node) → b ≡ is_some o → cond (d && b) (patterns_at o) [] ≡ cond d (patterns_at o) []
sought_by true b None e = ap (λ (c : Bool). cond c (patterns_at None) []) e
sought_by true b (Some n) e = ap (λ (c : Bool). cond c (patterns_at (Some n)) []) e
sought_by false b o e = refl

-- the files that are listed give a folder's rules
pub level_listed : (t : Tree) (r : Rules) (p : Names) (es : List Entry) → list_answer t p ≡ Ok es → level_of t (listed r es) p ≡ level_at t r p
unfolding level_of listed level_at ignore_file_at has_git
level_listed t r p es e =
    let seen : (m : List ℕ) → lists es m ≡ is_some (node_at t (p ++ m ∷ [])) = λ m. ap (λ (fs : List Entry). lists fs m) (entries_are t p es e) ∙ listed_names p t m in
    let git : (r.git && lists es (codes ".git")) ≡ (r.git && is_some (node_at t (p ++ codes ".git" ∷ []))) = ap (λ (b : Bool). r.git && b) (seen (codes ".git")) in
    same_level
    (sought_by r.dot (lists es (codes ".tokeignore"))
    (node_at t (p ++ codes ".tokeignore" ∷ [])) (seen (codes ".tokeignore")))
    (sought_by r.dot (lists es (codes ".ignore")) (node_at t (p ++ codes ".ignore" ∷ []))
    (seen (codes ".ignore")))
    (sought_by r.git (lists es (codes ".gitignore")) (node_at t (p ++ codes ".gitignore" ∷ [])) (seen (codes ".gitignore")))
    (ap (λ (b : Bool). cond b (patterns_at (node_at t (p ++ codes ".git" ∷ codes "info" ∷ codes "exclude" ∷ []))) []) git) git
