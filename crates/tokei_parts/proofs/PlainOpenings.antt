-- The choice by the list of what opens in plain text is the one by the lists of the row.
use Rattle.std.proofs.Common.{◌≡◌, ℕ, Bool, true, false, ◌||◌, cond, List, [], ◌∷◌, ◌++◌, Option, None, Some, is_some, refl, sym, ◌∙◌, ap}
use Rattle.tokei_table_row.specs.Bytes.{begins}
use Rattle.tokei_table_row.specs.Row.{Pair, Row}
use Rattle.tokei_parts.specs.Choice.{Choice, opened, any_begins, is_escape, or_else, opening_in_plain, choice}
use Rattle.tokei_parts.specs.Choice.Choice.{opens, escapes, begins_line_comment, takes_byte}
use Rattle.tokei_parts.specs.Items.{Block}
use Rattle.tokei_parts.specs.PlainOpenings.{Opening, item_openings, line_openings, openings, first_or, first_opening}
use Rattle.tokei_parts.specs.declared.items.ItemKind.{ItemKind}
use Rattle.tokei_parts.specs.declared.items.ItemKind.TheVariants.{DocString, VerbatimString, OrdinaryString, MultiLineComment}

-- one list of openers before others
items_or : (kind : ItemKind) (ps : List Pair) (os : List Opening) (text : List ℕ) (d : Choice)
    → first_or (item_openings kind ps ++ os) text d ≡ or_else (opened ps text) (opens kind) (first_or os text d)
items_or kind [] os text d = refl
items_or kind (p ∷ ps) os text d =
    ap (λ c. cond (begins p.opener text) (opens kind p) c) (items_or kind ps os text d)
    ∙ by_test (begins p.opener text) p (opened ps text) (first_or os text d)
  where
    by_test : (b : Bool) (p : Pair) (o : Option Pair) (c : Choice) → cond b (opens kind p) (or_else o (opens kind) c) ≡ or_else (cond b (Some p) o) (opens kind) c
    by_test true p o c = refl
    by_test false p o c = refl

lines_or : (ts : List (List ℕ)) (text : List ℕ) (d : Choice) → first_or (line_openings ts) text d ≡ cond (any_begins ts text) begins_line_comment d
lines_or [] text d = refl
lines_or (t ∷ ts) text d =
    ap (λ c. cond (begins t text) begins_line_comment c) (lines_or ts text d) ∙ by_test (begins t text) (any_begins ts text) d
  where
    by_test : (a b : Bool) (d : Choice) → cond a begins_line_comment (cond b begins_line_comment d) ≡ cond (a || b) begins_line_comment d
    by_test true b d = refl
    by_test false b d = refl

pub by_lists : (r : Row) (text : List ℕ) → first_opening (openings r) text ≡ opening_in_plain r text
by_lists r text =
    items_or DocString r.doc_quotes _ text takes_byte
    ∙ ap (or_else (opened r.doc_quotes text) (opens DocString)) (
    items_or VerbatimString r.verbatim_quotes _ text takes_byte
    ∙ ap (or_else (opened r.verbatim_quotes text) (opens VerbatimString)) (
    items_or OrdinaryString r.quotes _ text takes_byte
    ∙ ap (or_else (opened r.quotes text) (opens OrdinaryString)) (
    items_or MultiLineComment r.multi_line_comments _ text takes_byte
    ∙ ap (or_else (opened r.multi_line_comments text) (opens MultiLineComment)) (
    items_or MultiLineComment r.nested_comments _ text takes_byte
    ∙ ap (or_else (opened r.nested_comments text) (opens MultiLineComment)) (lines_or r.line_comment text takes_byte)))))

-- where no child opens and no escape stands
pub plain_choice : (r : Row) (o : Option Block) (text : List ℕ) (os : List Opening) (c : Choice)
    → is_some o ≡ false → is_escape r text ≡ false → os ≡ openings r
    → c ≡ first_opening os text → c ≡ choice r None o text
unfolding choice
plain_choice r (Some b) text os c none e is h = cc
plain_choice r None text os c none e is h =
    h ∙ ap (λ ps. first_opening ps text) is ∙ by_lists r text ∙ ap (λ b. cond b escapes (opening_in_plain r text)) (sym e)
