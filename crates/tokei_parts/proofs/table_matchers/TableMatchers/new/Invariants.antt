use Rattle.std.proofs.Common.{◌≡◌, map, take}
use Rattle.tokei_parts.specs.Matchers.{matchers_of}
use Rattle.tokei_parts.specs.TableMatchers.{behind}
use Rattle.tokei_parts.proofs.table_matchers.TableMatchers.new.Given as goal

abbrev pub invariant-loop-language : goal.invariant-loop-language
invariant-loop-language l = behind l.all.items ≡ map matchers_of (take l.language-index l.table)
