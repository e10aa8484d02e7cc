use Rattle.tokei_json.specs.Tokens.{children_members}
use Rattle.tokei_json.proofs.Writing.{LacksMembers}
use Rattle.tokei_json.proofs.tokens.write_children.Given as goal

abbrev pub invariant-loop-name : goal.invariant-loop-name
invariant-loop-name l = LacksMembers (children_members l.table l.initial.name-iterator) (children_members l.table l.name-iterator) l.initial.out l.out
