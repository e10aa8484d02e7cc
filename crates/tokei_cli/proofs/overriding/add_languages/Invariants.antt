-- The languages of the pieces so far are added.
use Rattle.std.proofs.Common.{◌≡◌, ◌++◌, map}
use Rattle.std.specs.Prelude.{filter_map}
use Rattle.tokei_cli.specs.Overriding.{language_named}
use Rattle.tokei_cli.proofs.overriding.add_languages.Given as goal

abbrev pub invariant-loop-piece : goal.invariant-loop-piece
invariant-loop-piece l = l.languages.items ≡ l.initial.languages.items ++ filter_map (language_named l.table) (map (λ x. x.now) l.yielded)
