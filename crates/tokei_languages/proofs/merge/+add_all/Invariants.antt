use Rattle.std.proofs.Common.{length}
use Rattle.tokei_languages.proofs.merge.+add_all.Given as goal

abbrev pub decreases-add_all : goal.decreases-add_all
decreases-add_all l = length l.more.entries
