use Rattle.std.proofs.Common.{rules}
use Rattle.tokei_walk.proofs.NoPatterns.{nothing_decided}
use Rattle.tokei_walk.proofs.levels.decided.Goals as goal

pub returns-then-not-have_patterns : goal.returns-then-not-have_patterns
returns-then-not-have_patterns c = nothing_decided c.args.levels.now c.args.names.now c.args.is_folder (search rules)
