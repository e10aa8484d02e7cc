-- The code's values as the definitions see them.
use Rattle.std.specs.Prelude.{Option, option_map}
use Rattle.tokei_table_row.specs.RowOf.{pair_of}
use Rattle.tokei_parts.specs.Items.{Block, Enclosure, Mode}
use Rattle.tokei_parts.specs.Choice.{Choice, or_else}
use Rattle.tokei_parts.specs.Choice.Choice.{closes, escapes, child_opens, opens, passes_over}
use Rattle.tokei_parts.specs.Choice.Choice.{begins_line_comment, takes_byte}
use Rattle.tokei_parts.specs.declared.choice.Choice as CodeChoice
use Rattle.tokei_parts.specs.declared.choice.Choice.TheVariants.{Closes, Escapes, ChildOpens, Opens, PassesOver}
use Rattle.tokei_parts.specs.declared.choice.Choice.TheVariants.{BeginsLineComment, TakesByte}
use Rattle.tokei_parts.specs.declared.items.Enclosure as CodeEnclosure

-- a choice where that child can open, if any
abbrev pub choice_of : Option Block → CodeChoice.Choice → Choice
choice_of block Closes = closes
choice_of block Escapes = escapes
choice_of block ChildOpens = or_else block child_opens takes_byte
choice_of block (Opens k p) = opens k (pair_of p.now)
choice_of block (PassesOver p) = passes_over (pair_of p.now)
choice_of block BeginsLineComment = begins_line_comment
choice_of block TakesByte = takes_byte

-- an item that encloses a place: what it is, and the bytes of its closer
abbrev pub enclosure_of : CodeEnclosure.Enclosure → Enclosure
enclosure_of item = record { kind = item.kind; closer = item.closer.now }

-- the mode inside the innermost item, plain where there is none
abbrev pub mode_of : Option CodeEnclosure.Enclosure → Mode
mode_of item = option_map enclosure_of item
