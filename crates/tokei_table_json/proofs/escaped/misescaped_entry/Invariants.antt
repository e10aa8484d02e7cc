use Rattle.tokei_table_json.specs.Escaped.{are_escaped_languages}
use Rattle.tokei_table_json.proofs.Left.{MembersLeft}
use Rattle.tokei_table_json.proofs.escaped.misescaped_entry.Given as goal

abbrev pub invariant-loop-entry : goal.invariant-loop-entry
invariant-loop-entry l = MembersLeft are_escaped_languages l.entry-items l.entry-index
