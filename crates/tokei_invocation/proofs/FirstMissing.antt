-- The first root at which nothing stands, where something stands at those before it; and the empty one.
use Rattle.std.proofs.Common.{◌≡◌, ◌∙◌, ℕ, ◌+◌, ◌<◌, ◌==◌, List, [], ◌∷◌, ◌++◌, String, true, ap, drop, flat_map, get_or, length, arith, string_bytes, sym, take, take-append-drop}
use Rattle.std.proofs.lemmas.Bool.Decides.{nat_tests}
use Rattle.std.proofs.lemmas.List.{drop_more, map-append, nil_from_length}
use Rattle.std.proofs.lemmas.Str.{chars-nil}
use Rattle.std.specs.Global.{Global}
use Rattle.tokei_folders.specs.Tree.{Tree}
use Rattle.tokei_invocation.specs.Endings.{IsEndingOfRoot, IsEndingOfRoots, IsMissing}
use Rattle.tokei_invocation.specs.Roots.{AllStand, stands}
use Rattle.tokei_invocation.specs.declared.ending.Ending.{Ending}
use Rattle.tokei_invocation.specs.declared.ending.Ending.TheVariants.{Memory, Missing}
use Rattle.tokei_stats.specs.Shown.{shown, shown_char}
use Rattle.tokei_walk.specs.Walks.{texts_of}

no_byte : (root : List ℕ) → (length root == 0) ≡ true → root ≡ []
no_byte root e =
    let none : length root ≡ 0 = grind (arith, nat_tests, e) in
    nil_from_length root none

-- nothing stands at the empty root
pub empty_missing : (t : Tree) (root text : List ℕ) → (length root == 0) ≡ true → text ≡ [] → IsMissing t root text
empty_missing t root text e none =
    let empty = no_byte root e in
    record {
      missing = ap (stands t) empty;
      named = none ∙ sym (ap shown empty ∙ ap (flat_map shown_char) chars-nil);
    }

module _ (ts : List (String Global)) (i : ℕ) (r : String Global) (within : i < length ts) (is : r ≡ get_or ts i r) where
  split : texts_of ts ≡ texts_of (take i ts) ++ string_bytes r ∷ texts_of (drop (i + 1) ts)
  split =
      ap texts_of (sym (take-append-drop i ts) ∙ ap (λ xs. take i ts ++ xs) (drop_more ts i r within ∙ ap (λ x. x ∷ drop (i + 1) ts) (sym is)))
      ∙ map-append string_bytes (take i ts) (r ∷ drop (i + 1) ts)

  pub first_missing : (t : Tree) → AllStand t (texts_of (take i ts)) → (ending : Ending) → IsEndingOfRoot t (string_bytes r) ending
      → IsEndingOfRoots t (texts_of ts) ending
  first_missing t stand (Missing text) h = record {
    before = texts_of (take i ts);
    root = string_bytes r;
    behind = texts_of (drop (i + 1) ts);
    are = split;
    stand = stand;
    first = h;
  }
  first_missing t stand Memory h = tt
  first_missing t stand ending h = absurd h
