-- The notes of a stream.
use Rattle.std.proofs.Common.{◌≡◌, List, ◌++◌, ap, ◌∙◌}
use Rattle.tokei_walk.specs.Notes.{Grows}
use Rattle.tokei_walk.specs.declared.kept_file.Note.{Note}
use Rattle.tokei_walk.proofs.Growing.{grows_on, grows_same}

-- those of unread files stand behind those of the walk
pub noted_behind : (excludes first walked noted unread all : List Note) → first ≡ excludes → Grows first walked
    → noted ≡ walked → all ≡ noted ++ unread → Grows excludes all
noted_behind excludes first walked noted unread all begun grown taken put =
    let behind : Grows walked all = record { more = unread; is = put ∙ ap (λ (q : List Note). q ++ unread) taken } in
    grows_on excludes first all (grows_same excludes first begun) (grows_on first walked all grown behind)
