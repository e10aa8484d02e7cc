-- A line at whose places one item stands at most.
use Rattle.std.specs.Prelude.{ℕ, ◌-◌, List, [], ◌∷◌, Option, None, Some, option_map}
use Rattle.tokei_parts.specs.Items.{Mode}
use Rattle.tokei_parts.specs.Modes.{Chain}
use Rattle.tokei_parts.specs.SeenChoices.{enclosure_of}
use Rattle.tokei_parts.specs.declared.items.Enclosure as CodeEnclosure
use Rattle.tokei_parts.specs.declared.items.ItemKind.{ItemKind}
use Rattle.tokei_parts.specs.declared.items.LineItem.{LineItem}
use Rattle.tokei_parts.specs.declared.line_walk.LineReach.{LineReach}
use Rattle.tokei_parts.specs.declared.walk.Reach.{Reach}

-- the items that enclose a place which that item alone encloses, or none
abbrev pub chain_in : Option CodeEnclosure.Enclosure → Chain
chain_in None = []
chain_in (Some item) = enclosure_of item ∷ []

-- the item that encloses a place of a line, or none, as the walk of the line keeps it
abbrev pub item_in : LineItem → Option CodeEnclosure.Enclosure
item_in item = option_map (λ kind. record { kind = kind; closer = item.closer }) item.kind

-- the mode inside an item of that kind with that closer, plain where there is none
abbrev pub mode_in : Option ItemKind → List ℕ → Mode
mode_in kind closer = option_map (λ k. record { kind = k; closer = closer }) kind

-- How far the walk has come: as many choices were made as bytes lie from `base` to the place. No
-- child is looked for, so `child` says nothing.
abbrev pub reach_of : LineReach → Reach
reach_of reach = record {
  at = reach.at;
  child = reach.at;
  steps = reach.at - reach.base;
}
