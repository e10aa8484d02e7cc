use Rattle.std.proofs.Common.{◌≡◌, ℕ, ◌-◌, true, false, Option, None, List, Bool, is_some, take, drop, length, ap, ◌∙◌, refl, sym}
use Rattle.tokei_parts.specs.Choice.{choice}
use Rattle.tokei_parts.specs.Items.{Block}
use Rattle.tokei_parts.specs.Matchers.{Matchers}
use Rattle.tokei_parts.specs.Places.{block_here, text_of}
use Rattle.tokei_parts.specs.PlainOpenings.{openings}
use Rattle.tokei_parts.specs.ReadingOf.{row_in}
use Rattle.tokei_parts.specs.SeenChoices.{choice_of}
use Rattle.tokei_parts.specs.declared.choice.Choice as CodeChoice
use Rattle.tokei_table.specs.Row.{Row}
use Rattle.tokei_table.specs.RowOf.{row_of}
use Rattle.tokei_parts.proofs.Leading.{rest_is}
use Rattle.tokei_parts.proofs.walk.choice_in_plain.Goals as goal

-- the choice by whether a child can open
by_opens : (r : Row) (o : Option Block) (u : List ℕ) (x : CodeChoice.Choice) (opens : Bool)
    → (opens ≡ true → is_some o ≡ true) → (opens ≡ false → o ≡ None)
    → ((p : Option Block) → is_some p ≡ opens → choice_of p x ≡ choice r None p u) → choice_of o x ≡ choice r None o u
by_opens r o u x true some none is = is o (some refl)
by_opens r o u x false some none is = is o (ap is_some (none refl))

pub returns-clause-choice : goal.returns-clause-choice
returns-clause-choice c =
    let text : List ℕ = text_of c.args.place.now in
    let at : ℕ = c.args.place.now.at in
    let u : List ℕ = drop at text in
    let here : (o : Option Block) → choice (row_of c.args.place.now.reading.now.syntax.now) None o (take (length text - at) u)
    ≡ choice (row_in c.args.place.now.reading.now) None o u = λ o.
    ap (λ r. choice r None o (take (length text - at) u)) c.args.place.now.reading.now.row
    ∙ ap (choice (row_in c.args.place.now.reading.now) None o) (rest_is at text) in
    by_opens (row_in c.args.place.now.reading.now) (block_here c.args.place.now) u c.choose_in_plain.result c.args.opens
    c.requires.child c.requires.childless (λ o e. c.choose_in_plain.ensures.choice o e ∙ here o)

pub choose_in_plain-requires : goal.choose_in_plain-requires
choose_in_plain-requires c = record { matched = ap (λ (m : Matchers). m.openings) c.args.place.now.reading.now.matched ∙ sym (ap openings c.args.place.now.reading.now.row) }
