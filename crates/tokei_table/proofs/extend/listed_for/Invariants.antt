use Rattle.std.proofs.Common.{◌≡◌, ◌++◌, drop, map}
use Rattle.tokei_table_rules.specs.Extended.{addition_of, listed_for}
use Rattle.tokei_table_rules.specs.MetNames.{words_of}
use Rattle.tokei_table.proofs.extend.listed_for.Given as goal

abbrev pub invariant-loop-addition : goal.invariant-loop-addition
invariant-loop-addition l =
    words_of l.out.items ++ listed_for l.place (map addition_of (drop l.addition-index l.additions))
    ≡ listed_for l.place (map addition_of l.additions)
