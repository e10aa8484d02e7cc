use Rattle.std.proofs.Common.{◌≡◌, ◌∙◌, ℕ, Bool, List, ap}
use Rattle.tokei_table.specs.Families.{family_of}
use Rattle.tokei_table.specs.Family.{Family}
use Rattle.tokei_table.specs.Lookups.{row_at}
use Rattle.tokei_table.specs.Openers.{openers}
use Rattle.tokei_table.specs.Row.{Row}
use Rattle.tokei_parts.specs.Matchers.{Matchers, begins_choice, begins_comment, begins_in_comment, flags, matchers_of}
use Rattle.tokei_parts.specs.PlainOpenings.{Opening, openings}
use Rattle.tokei_parts.proofs.matchers.LanguageMatchers.new.Goals as goal

abbrev made : List (List ℕ) → List Bool → List Bool → List Bool → Family → List Opening → Matchers
made os bs cs ls f ps = record { openers = os; begins = bs; begins_in_comment = cs; begins_comment = ls; family = f; openings = ps }

are_made : (g : Row) (os : List (List ℕ)) (bs cs ls : List Bool) (f : Family) (ps : List Opening) → os ≡ openers g → bs ≡ flags (begins_choice g) 256
    → cs ≡ flags (begins_in_comment g) 256 → ls ≡ flags (begins_comment g) 256 → f ≡ family_of g.key → ps ≡ openings g
    → made os bs cs ls f ps ≡ matchers_of g
are_made g os bs cs ls f ps eo eb ec el ef ep =
    ap (λ o. made o bs cs ls f ps) eo ∙ ap (λ b. made (openers g) b cs ls f ps) eb
    ∙ ap (λ b. made (openers g) (flags (begins_choice g) 256) b ls f ps) ec
    ∙ ap (λ b. made (openers g) (flags (begins_choice g) 256) (flags (begins_in_comment g) 256) b f ps) el
    ∙ ap (λ k. made (openers g) (flags (begins_choice g) 256) (flags (begins_in_comment g) 256) (flags (begins_comment g) 256) k ps) ef
    ∙ ap (made (openers g) (flags (begins_choice g) 256) (flags (begins_in_comment g) 256) (flags (begins_comment g) 256) (family_of g.key)) ep

pub returns : goal.returns
returns c =
    let g : Row = row_at c.args.table.now c.args.language in
    let row_is = c.syntax-syntax.ensures.row in
    are_made g c.in_ok-shared.shared c.beginnings-begins.result c.beginnings_in_comment-begins_in_comment.result
    c.beginnings_of_comments-begins_comment.result c.of_key-family.result c.in_ok-openings.openings
    c.in_ok-shared.ensures
    (c.beginnings-begins.ensures ∙ ap (λ (r : Row). flags (begins_choice r) 256) row_is)
    (c.beginnings_in_comment-begins_in_comment.ensures ∙ ap (λ (r : Row). flags (begins_in_comment r) 256) row_is)
    (c.beginnings_of_comments-begins_comment.ensures ∙ ap (λ (r : Row). flags (begins_comment r) 256) row_is)
    (c.of_key-family.ensures ∙ ap family_of c.as_str.ensures.value ∙ ap (λ (r : Row). family_of r.key) row_is)
    (c.in_ok-openings.ensures ∙ ap (λ (r : Row). openings r) row_is)
