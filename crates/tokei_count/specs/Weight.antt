-- The weight of a text: a bound on what its reading takes and counts. Every byte of a text weighs,
-- and so does every byte of a notebook's cells, which aren't bytes of the notebook: their sources
-- are decoded from it.
use Rattle.std.specs.Prelude.{ℕ, zero, suc, ◌+◌, if◌then◌else◌, List, length}
use Rattle.tokei_count.specs.Languages.{Languages, is_notebook}
use Rattle.tokei_count.specs.Steps.{children_in, sum_over}

-- what a text weighs by itself: its bytes, and a notebook nothing
abbrev pub own_weight : Languages → ℕ → List ℕ → ℕ
own_weight ls language text = if is_notebook (ls.row language) then 0 else length text

-- What a text weighs beside its bytes: a notebook the weights of its cells, each in its language;
-- another text the extras of its children, whose bytes are among its own. With no levels left it is
-- nothing.
unfoldable pub extra : Languages → ℕ → ℕ → List ℕ → ℕ
extra ls zero language text = 0
extra ls (suc levels) language text =
    if is_notebook (ls.row language)
    then sum_over (λ k. own_weight ls k.language k.contents + extra ls levels k.language k.contents)
    (ls.cells language text)
    else sum_over (λ k. extra ls levels k.language k.contents)
    (children_in ls (suc levels) language text)

-- The weight of a text, with so many levels left.
abbrev pub weight : Languages → ℕ → ℕ → List ℕ → ℕ
weight ls levels language text = own_weight ls language text + extra ls levels language text
