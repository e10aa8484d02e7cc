-- In a string or a comment neither a child opens nor a line comment begins.
use Rattle.std.proofs.Common.{◌≡◌, ℕ, Bool, true, false, ◌||◌, cond, List, Option, None, Some}
use Rattle.std.specs.Prelude.{⊤}
use Rattle.tokei_table.specs.Bytes.{begins}
use Rattle.tokei_table.specs.Row.{Pair, Row}
use Rattle.tokei_parts.specs.Items.{Block, Enclosure}
use Rattle.tokei_parts.specs.Choice.{Choice, choice, opened, or_else, is_escape, has_pair, met_in_comment, choice_in_string, choice_in_comment, choice_within}
use Rattle.tokei_parts.specs.Choice.Choice.{closes, escapes, child_opens, opens, passes_over, begins_line_comment, takes_byte}
use Rattle.tokei_parts.specs.declared.items.ItemKind.{ItemKind}
use Rattle.tokei_parts.specs.declared.items.ItemKind.TheVariants.{DocString, VerbatimString, OrdinaryString, MultiLineComment}

-- the choice can be made in an item
abbrev IsWithin : Choice → Type 0
IsWithin closes = ⊤
IsWithin escapes = ⊤
IsWithin (child_opens k) = ⊥
IsWithin (opens k p) = ⊤
IsWithin (passes_over p) = ⊤
IsWithin begins_line_comment = ⊥
IsWithin takes_byte = ⊤

cond_within : (x : Bool) (a b : Choice) → IsWithin a → IsWithin b → IsWithin (cond x a b)
cond_within true a b h k = h
cond_within false a b h k = k

else_within : (o : Option Pair) (f : Pair → Choice) (b : Choice) → ((p : Pair) → IsWithin (f p)) → IsWithin b → IsWithin (or_else o f b)
else_within None f b h k = k
else_within (Some p) f b h k = h p

string_within : (g : Row) (verbatim : Bool) (closer u : List ℕ) → IsWithin (choice_in_string g verbatim closer u)
string_within g verbatim closer u = cond_within (begins closer u) closes _ tt (cond_within (cond verbatim false (is_escape g u)) escapes takes_byte tt tt)

comment_within : (g : Row) (closer u : List ℕ) → IsWithin (choice_in_comment g closer u)
comment_within g closer u =
    cond_within (is_escape g u) escapes _ tt
    (cond_within (begins closer u) closes _ tt
    (else_within (opened g.multi_line_comments u) (met_in_comment g) _ (λ p. cond_within (g.nested || has_pair g.nested_comments p) (opens MultiLineComment p) (passes_over p) tt tt)
    (else_within (opened g.nested_comments u) (opens MultiLineComment) takes_byte (λ p. tt) tt)))

by_kind : (g : Row) (q : ItemKind) (closer u : List ℕ) → IsWithin (choice_within g q closer u)
by_kind g DocString closer u = string_within g false closer u
by_kind g VerbatimString closer u = string_within g true closer u
by_kind g OrdinaryString closer u = string_within g false closer u
by_kind g MultiLineComment closer u = comment_within g closer u

pub within_no_child : (g : Row) (e : Enclosure) (o : Option Block) (u : List ℕ) (k : Block) → choice g (Some e) o u ≡ child_opens k → ⊥
unfolding choice
within_no_child g e o u k h = let n : IsWithin (choice_within g e.kind e.closer u) = by_kind g e.kind e.closer u in rw h at n

pub within_no_line_comment : (g : Row) (e : Enclosure) (o : Option Block) (u : List ℕ) → choice g (Some e) o u ≡ begins_line_comment → ⊥
unfolding choice
within_no_line_comment g e o u h = let n : IsWithin (choice_within g e.kind e.closer u) = by_kind g e.kind e.closer u in rw h at n
