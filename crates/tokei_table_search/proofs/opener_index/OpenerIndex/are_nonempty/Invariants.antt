use Rattle.std.proofs.Common.{◌≡◌, drop, map}
use Rattle.std.specs.List.{list_all}
use Rattle.tokei_table_row.specs.FirstOpener.{is_nonempty}
use Rattle.tokei_table_search.proofs.opener_index.OpenerIndex.are_nonempty.Given as goal

abbrev pub invariant-loop-text : goal.invariant-loop-text
invariant-loop-text l =
    list_all is_nonempty (map (λ t. t.now) (drop l.text-index l.texts))
    ≡ list_all is_nonempty (map (λ t. t.now) l.texts)
