use Rattle.tokei_languages.proofs.AnyOrder.{files_alike}
use Rattle.tokei_languages.proofs.laws.any_order_of_files_counts_alike.Goals as goal

pub returns : goal.returns
returns c = files_alike
