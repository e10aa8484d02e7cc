-- The lines of the languages so far are there.
use Rattle.std.proofs.Common.{◌≡◌, ◌++◌, take, codes, string_bytes}
use Rattle.std.specs.Prelude.{flat_map}
use Rattle.tokei_table.specs.Listed.{listed}
use Rattle.tokei_cli.specs.Printing.{list_line}
use Rattle.tokei_cli.proofs.Listing.{listed_line}
use Rattle.tokei_cli.proofs.printing.languages_text.Given as goal

abbrev pub invariant-loop-language : goal.invariant-loop-language
invariant-loop-language l =
    string_bytes l.text ≡ list_line (codes "Language") (codes "Extensions") ++ flat_map (λ p. listed_line l.table (listed p)) (take l.language-index l.language-items)
