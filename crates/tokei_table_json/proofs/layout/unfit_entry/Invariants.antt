use Rattle.tokei_table_json.specs.Layout.{are_languages}
use Rattle.tokei_table_json.proofs.Left.{MembersLeft}
use Rattle.tokei_table_json.proofs.layout.unfit_entry.Given as goal

abbrev pub invariant-loop-entry : goal.invariant-loop-entry
invariant-loop-entry l = MembersLeft are_languages l.entry-items l.entry-index
