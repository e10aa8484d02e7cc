-- The weight of texts, where no language is read as a notebook.
use Rattle.std.proofs.Common.{◌≡◌, ℕ, suc, zero, ◌+◌, ◌<◌, false, true, Bool, cond, List, [], ◌∷◌, length, refl, ◌∙◌, ap, arith}
use Rattle.tokei_table.specs.Lookups.{row_at}
use Rattle.tokei_table.specs.Row.{Row}
use Rattle.tokei_table.specs.Tokens.{has_tokens}
use Rattle.tokei_parts.specs.Items.{Block}
use Rattle.tokei_count.specs.Languages.{is_notebook}
use Rattle.tokei_count.specs.NotebookCells.{cell_blocks}
use Rattle.tokei_count.specs.Languages.{languages_of}
use Rattle.tokei_count.specs.Steps.{children_in, sum_over}
use Rattle.tokei_count.specs.Weight.{own_weight, extra, weight}
use Rattle.tokei_count.specs.WeightLaws.{HaveTokens, HaveNoNotebook}

-- what is said of each row of a table is said of each place, if a new row is so too
every_row : (test : Row → Bool) (b : Bool) (rows : List Row) → ((n : ℕ) → test (row_at [] n) ≡ b) → ((i : ℕ) → i < length rows → test (row_at rows i) ≡ b) → (i : ℕ) → test (row_at rows i) ≡ b
every_row test b [] f h i = f i
every_row test b (r ∷ rows) f h zero = h zero (omega arith)
every_row test b (r ∷ rows) f h (suc i) = every_row test b rows f (λ j k. h (suc j) (omega (arith, k))) i

pub every_token : (rows : List Row) → HaveTokens rows → (i : ℕ) → has_tokens (row_at rows i) ≡ true
unfolding has_tokens
every_token rows h = every_row has_tokens true rows (λ n. refl) h

pub every_line : (rows : List Row) → HaveNoNotebook rows → (i : ℕ) → is_notebook (row_at rows i) ≡ false
every_line rows h = every_row is_notebook false rows (λ n. refl) h

pub sum_none : (f : Block → ℕ) → ((k : Block) → f k ≡ 0) → (ks : List Block) → sum_over f ks ≡ 0
sum_none f h [] = refl
sum_none f h (k ∷ ks) = omega (arith, h k, sum_none f h ks)

no_extra : (rows : List Row) → ((i : ℕ) → is_notebook (row_at rows i) ≡ false) → (levels language : ℕ) (t : List ℕ) → extra (languages_of rows) levels language t ≡ 0
unfolding extra
no_extra rows h zero language t = refl
no_extra rows h (suc n) language t =
    ap
    (λ x. cond x
    (sum_over
    (λ k. own_weight (languages_of rows) k.language k.contents
    + extra (languages_of rows) n k.language k.contents)
    (cell_blocks rows language t))
    (sum_over (λ k. extra (languages_of rows) n k.language k.contents)
    (children_in (languages_of rows) (suc n) language t)))
    (h language)
    ∙ sum_none (λ (k : Block). extra (languages_of rows) n k.language k.contents) (λ k. no_extra rows h n k.language k.contents) (children_in (languages_of rows) (suc n) language t)

pub weight-length : (rows : List Row) → HaveNoNotebook rows → (levels language : ℕ) (t : List ℕ) → weight (languages_of rows) levels language t ≡ length t
weight-length rows h levels language t =
    let all = every_line rows h in
    let none : extra (languages_of rows) levels language t ≡ 0 = no_extra rows all levels language t in
    let own : own_weight (languages_of rows) language t ≡ length t = ap (λ x. cond x 0 (length t)) (all language) in
    omega (arith, none, own)
