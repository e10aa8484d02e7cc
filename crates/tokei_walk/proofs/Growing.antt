-- Notes that grow.
use Rattle.std.proofs.Common.{◌≡◌, ℕ, ◌+◌, ◌<◌, List, [], ◌∷◌, ◌++◌, length, take, get_or, replicate, sym, ap, ap₂, ◌∙◌, append_assoc, append-nil}
use Rattle.std.proofs.lemmas.List.{replicate-append-replicate, take_more, map-append}
use Rattle.tokei_folders.specs.Places.{joined}
use Rattle.tokei_walk.specs.declared.kept_file.Note.{Note}
use Rattle.tokei_walk.specs.declared.kept_file.NoteKind.TheVariants.{LostEntry}
use Rattle.tokei_walk.specs.Notes.{Grows, lost_note, lost_notes}

pub grows_same : (a b : List Note) → b ≡ a → Grows a b
grows_same a b e = record { more = []; is = e ∙ sym (append-nil a) }

pub grows_by : (a b : List Note) (n : Note) → b ≡ a ++ n ∷ [] → Grows a b
grows_by a b n e = record { more = n ∷ []; is = e }

pub grows_on : (a b c : List Note) → Grows a b → Grows b c → Grows a c
grows_on a b c f g = record { more = f.more ++ g.more; is = g.is ∙ ap (λ (x : List Note). x ++ g.more) f.is ∙ append_assoc a f.more g.more }

pub both_noted : (a b c m n : List Note) → b ≡ a ++ m → c ≡ b ++ n → c ≡ a ++ (m ++ n)
both_noted a b c m n e f = f ∙ ap (λ (x : List Note). x ++ n) e ∙ append_assoc a m n

-- as many notes of one kind and place, and one more
pub one_note_more : (a b c : List Note) (k : ℕ) (n : Note) → b ≡ a ++ replicate k n → c ≡ b ++ n ∷ [] → c ≡ a ++ replicate (k + 1) n
one_note_more a b c k n e f =
    f ∙ ap (λ (x : List Note). x ++ n ∷ []) e ∙ append_assoc a (replicate k n) (n ∷ []) ∙ ap (λ (x : List Note). a ++ x) (replicate-append-replicate k 1 n)

abbrev lost_at : List ℕ → Note
lost_at place = record { kind = LostEntry; place = place }

-- as many notes as entries are lost, and one more
pub lost_more : (a b c : List Note) (place : List ℕ) (names : List (List ℕ)) (i : ℕ) (name whole : List ℕ) → i < length names → name ≡ get_or names i name → whole ≡ joined place name
    → b ≡ a ++ lost_notes place (take i names) → c ≡ b ++ record { kind = LostEntry; place = whole } ∷ [] → c ≡ a ++ lost_notes place (take (i + 1) names)
lost_more a b c place names i name whole few is at e f =
    let more : take (i + 1) names ≡ take i names ++ name ∷ [] = take_more names i name few ∙ ap (λ (x : List ℕ). take i names ++ x ∷ []) (sym is) in
    f ∙ ap₂ (λ (x : List Note) (y : List ℕ). x ++ lost_at y ∷ []) e at ∙ append_assoc a (lost_notes place (take i names)) (lost_at (joined place name) ∷ [])
    ∙ ap (λ (x : List Note). a ++ x) (sym (map-append (lost_note place) (take i names) (name ∷ []))) ∙ ap (λ (x : List (List ℕ)). a ++ lost_notes place x) (sym more)
