use Rattle.tokei_languages.specs.Sorting.{puts_first}
use Rattle.tokei_languages.proofs.Ranks.{ranks}
use Rattle.tokei_languages.proofs.StableSort.{sort_is_stable}
use Rattle.tokei_languages.proofs.laws.sorts_are_stable.Goals as goal

pub returns : goal.returns
returns c = λ sort. sort_is_stable (puts_first sort) (ranks sort)
