use Rattle.std.proofs.Common.{◌≡◌, ◌++◌, drop}
use Rattle.tokei_table_row.specs.RowOf.{tokens_of}
use Rattle.tokei_table_rules.specs.Openers.{tag_starts}
use Rattle.tokei_table_rules.proofs.openers.add_tags.Given as goal

abbrev pub invariant-loop-tag : goal.invariant-loop-tag
invariant-loop-tag l =
    tokens_of l.out.items ++ tag_starts (tokens_of (drop l.tag-index l.tags))
    ≡ tokens_of l.initial.out.items ++ tag_starts (tokens_of l.tags)
