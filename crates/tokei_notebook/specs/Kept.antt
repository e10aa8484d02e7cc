-- What is kept of a notebook's JSON when it is read: the members by which its cells are told.
use Rattle.std.specs.Prelude.{ℕ, List, Bool, ◌||◌, if◌then◌else◌, codes, bytes_eq}
use Rattle.json.specs.Json.{Json, array, object, Items, no_items, item, Members, no_members, member}

-- The names of a cell's members that are asked for.
abbrev pub is_kept_in_cell : List ℕ → Bool
is_kept_in_cell name = bytes_eq name (codes "cell_type") || bytes_eq name (codes "source")

-- A cell's members of these names.
abbrev pub kept_in_cell : Members → Members
kept_in_cell no_members = no_members
kept_in_cell (member k j ms) =
    if is_kept_in_cell k then member k j (kept_in_cell ms) else kept_in_cell ms

-- A cell with these members alone; what is no object is no cell, and stays.
abbrev pub kept_of_cell : Json → Json
kept_of_cell (object ms) = object (kept_in_cell ms)
kept_of_cell value = value

-- Each cell of a list.
abbrev pub kept_of_items : Items → Items
kept_of_items no_items = no_items
kept_of_items (item j js) = item (kept_of_cell j) (kept_of_items js)

-- A list of cells; what is no list stays.
abbrev pub kept_of_cells : Json → Json
kept_of_cells (array js) = array (kept_of_items js)
kept_of_cells value = value

-- A notebook's members: its cells, and its metadata as they are.
abbrev pub kept_in_notebook : Members → Members
kept_in_notebook no_members = no_members
kept_in_notebook (member k j ms) =
    if bytes_eq k (codes "cells") then member k (kept_of_cells j) (kept_in_notebook ms)
    else (if bytes_eq k (codes "metadata") then member k j (kept_in_notebook ms)
    else kept_in_notebook ms)

-- A notebook with these members alone; what is no object is no notebook, and stays.
abbrev pub kept_of_notebook : Json → Json
kept_of_notebook (object ms) = object (kept_in_notebook ms)
kept_of_notebook value = value
