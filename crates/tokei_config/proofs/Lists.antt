-- Items that are read one after the other.
use Rattle.std.proofs.Common.{◌≡◌, ℕ, ◌+◌, ◌<◌, ◌≤◌, List, [], ◌∷◌, ◌++◌, length, get_or, drop, Option, Some, None, option_map, append_assoc, append-nil, refl, ap, sym, ◌∙◌}
use Rattle.std.proofs.lemmas.List.{at_drop_all}
use Rattle.toml.proofs.Views.{items_view-drop}
use Rattle.toml.specs.Data.{Data}
use Rattle.toml.specs.View.{view, items_view}
use Rattle.toml.specs.declared.value.Value.{Value}
use Rattle.tokei_config.specs.Members.{all_of}

-- what was read, and then what the rest is read as
abbrev pub behind : {X : Type 0} → List X → Option (List X) → Option (List X)
behind done rest = option_map (λ xs. done ++ xs) rest

pub behind-more : {X : Type 0} (done : List X) (x : X) (rest : Option (List X)) → behind done (option_map (λ xs. x ∷ xs) rest) ≡ behind (done ++ x ∷ []) rest
behind-more done x None = refl
behind-more done x (Some xs) = ap (λ ys. Some ys) (sym (append_assoc done (x ∷ []) xs))

-- one more item that is read
pub all_of-read : {X : Type 0} (read : Data → Option X) (done : List X) (vs : List Value) (i : ℕ) (v : Value) (x : X) → i < length vs → read (view (get_or vs i v)) ≡ Some x
    → behind done (all_of read (items_view (drop i vs))) ≡ behind (done ++ x ∷ []) (all_of read (items_view (drop (i + 1) vs)))
all_of-read read done vs i v x within reads = rw (items_view-drop vs i v within, reads) (behind-more done x _)

-- an item that can't be read
pub all_of-unread : {X : Type 0} (read : Data → Option X) (done : List X) (vs : List Value) (i : ℕ) (v : Value) → i < length vs → read (view (get_or vs i v)) ≡ None
    → behind done (all_of read (items_view (drop i vs))) ≡ None
all_of-unread read done vs i v within reads = rw (items_view-drop vs i v within, reads)

-- all items are read
pub behind-end : {X : Type 0} (done : List X) → behind done (Some []) ≡ Some done
behind-end done = ap (λ xs. Some xs) (append-nil done)

pub all_of-end : {X : Type 0} (read : Data → Option X) (done : List X) (vs : List Value) (i : ℕ) → length vs ≤ i → behind done (all_of read (items_view (drop i vs))) ≡ Some done
all_of-end read done vs i past = ap (behind done) (at_drop_all (λ rest. all_of read (items_view rest)) vs i past) ∙ behind-end done
