use Rattle.tokei_languages.specs.Sorting.{puts_first}
use Rattle.tokei_languages.proofs.Ranks.{ranks}
use Rattle.tokei_languages.proofs.StableSort.{only_sort}
use Rattle.tokei_languages.proofs.laws.stable_sorts_are_one.Goals as goal

pub returns : goal.returns
returns c = λ sort rs ss h. only_sort (puts_first sort) (ranks sort) rs ss h.sorted h.stable
